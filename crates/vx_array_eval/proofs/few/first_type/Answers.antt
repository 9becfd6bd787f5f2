use Rattle.std.proofs.Common.{arith}
use Rattle.vx_eval.proofs.Transposed.{first_type_of}
use Rattle.vx_array_eval.proofs.few.first_type.Goals as goal

pub returns-in-len1-up : goal.returns-in-len1-up
returns-in-len1-up c = first_type_of _ _ _ (omega arith) c.first-item.is c.dtype.ensures
