use Rattle.std.proofs.Common.{map}
use Rattle.vx_value.specs.Types.{bytes}
use Rattle.vx_array_build.specs.Filled.{IsFilled, rows_lent}
use Rattle.vx_array_build.proofs.filled.octets_of.Given as goal

abbrev pub invariant-loop-i : goal.invariant-loop-i
invariant-loop-i l = IsFilled (map bytes l.spans) (rows_lent l.rows) l.i
