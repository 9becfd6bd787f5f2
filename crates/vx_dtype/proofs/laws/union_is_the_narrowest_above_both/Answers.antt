use Rattle.vx_dtype.proofs.Unions.{union-left, union-right, union-least, union-there}
use Rattle.vx_dtype.proofs.laws.union_is_the_narrowest_above_both.Goals as goal

pub returns : goal.returns
returns c = record { first = union-left; second = union-right; narrowest = union-least; there = union-there }
