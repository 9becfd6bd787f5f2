use Rattle.std.proofs.Common.{map}
use Rattle.vx_value.specs.Types.{bool}
use Rattle.vx_array_build.specs.Filled.{IsFilled, rows_lent}
use Rattle.vx_array_build.proofs.filled.truths_of.Given as goal

abbrev pub invariant-loop-i : goal.invariant-loop-i
invariant-loop-i l = IsFilled (map bool l.truths.items) (rows_lent l.rows) l.i
