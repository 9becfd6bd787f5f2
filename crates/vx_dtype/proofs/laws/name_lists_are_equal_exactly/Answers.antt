use Rattle.std.proofs.lemmas.Slice.Eq.{slice_eq-Decides, bytes_eq-Decides}
use Rattle.vx_dtype.proofs.laws.name_lists_are_equal_exactly.Goals as goal

pub returns : goal.returns
returns c = slice_eq-Decides bytes_eq-Decides _ _ _ c.eq.ensures
