use Rattle.std.proofs.lemmas.Bool.Decides.{Decides-at}
use Rattle.vx_dtype.specs.Deciding.{equal_fields-Decides}
use Rattle.vx_dtype.proofs.laws.fields_are_equal_exactly.Goals as goal

pub returns : goal.returns
returns c = Decides-at _ _ c.eq.ensures (equal_fields-Decides _ _)
