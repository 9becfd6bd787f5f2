use Rattle.std.proofs.Common.{◌≡◌, map, take}
use Rattle.vx_value.specs.Views.{value_of}
use Rattle.vx_array_build.specs.Filled.{rows_lent}
use Rattle.vx_array_build.proofs.columns.lent.Given as goal

abbrev pub invariant-loop-i : goal.invariant-loop-i
invariant-loop-i l = rows_lent l.rows.items ≡ map value_of (take l.i l.values)
