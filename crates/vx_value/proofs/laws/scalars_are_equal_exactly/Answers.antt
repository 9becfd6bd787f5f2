use Rattle.std.proofs.lemmas.Bool.Decides.{Decides-at}
use Rattle.vx_value.specs.Deciding.{equal_constant-Decides}
use Rattle.vx_value.proofs.laws.scalars_are_equal_exactly.Goals as goal

pub returns : goal.returns
returns c = Decides-at _ _ c.eq.ensures (equal_constant-Decides _ _)
