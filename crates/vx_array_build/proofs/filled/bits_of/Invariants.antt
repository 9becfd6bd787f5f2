use Rattle.std.proofs.Common.{map}
use Rattle.vx_value.specs.Types.{int}
use Rattle.vx_array_build.specs.Filled.{IsFilled, rows_lent}
use Rattle.vx_array_build.specs.FloatBits.{float_row}
use Rattle.vx_array_build.proofs.filled.bits_of.Given as goal

abbrev pub invariant-loop-i : goal.invariant-loop-i
invariant-loop-i g l = IsFilled (map (float_row g.T.FloatBits.format) (map int (map g.T.Number.number l.bits.items))) (rows_lent l.rows) l.i
