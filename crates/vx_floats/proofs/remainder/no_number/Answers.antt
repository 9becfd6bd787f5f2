use Rattle.vx_floats.proofs.Remainders.{none_32, none_64}
use Rattle.vx_floats.proofs.remainder.no_number.Goals as goal

pub returns-in-F32 : goal.returns-in-F32
returns-in-F32 c = rw c.in-F32.is none_32

pub returns-in-F64 : goal.returns-in-F64
returns-in-F64 c = rw c.in-F64.is none_64
