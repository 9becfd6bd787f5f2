use Rattle.std.proofs.Common.{◌≡◌, ◌+◌, map, take}
use Rattle.vx_value.specs.StructColumns.{row_at}
use Rattle.vx_value.specs.Views.{value_of}
use Rattle.vx_array.specs.Rows.{lanes_each}
use Rattle.vx_array.proofs.values.+value.Given as goal

abbrev pub invariant-items_at-loop-field : goal.invariant-items_at-loop-field
invariant-items_at-loop-field l = map value_of l.items.items ≡ row_at (l.from + l.i) (lanes_each (take l.field-index l.fields))
