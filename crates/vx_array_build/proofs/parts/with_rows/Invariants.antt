use Rattle.std.proofs.Common.{◌≡◌, ◌++◌, map, take}
use Rattle.vx_value.specs.Views.{value_of}
use Rattle.vx_array.specs.Rows.{lanes_rows}
use Rattle.vx_array_build.proofs.parts.with_rows.Given as goal

abbrev pub invariant-loop-i : goal.invariant-loop-i
invariant-loop-i l = map value_of l.values.items ≡ map value_of l.initial.values.items ++ take l.i (lanes_rows l.lanes)
