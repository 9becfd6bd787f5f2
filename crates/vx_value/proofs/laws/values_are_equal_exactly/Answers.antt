use Rattle.std.proofs.lemmas.Bool.Decides.{Decides-at}
use Rattle.vx_value.specs.Deciding.{equal_datum-Decides}
use Rattle.vx_value.proofs.laws.values_are_equal_exactly.Goals as goal

pub returns : goal.returns
returns c = Decides-at _ _ c.eq.ensures (equal_datum-Decides _ _)
