use Rattle.std.proofs.Common.{◌≡◌, map, take}
use Rattle.vx_value.specs.Views.{value_of}
use Rattle.vx_array_build.specs.Filled.{rows_lent}
use Rattle.vx_array_build.proofs.columns.boxed.Given as goal

abbrev pub invariant-loop-i : goal.invariant-loop-i
invariant-loop-i l = map value_of l.values.items ≡ rows_lent (take l.i l.rows)
