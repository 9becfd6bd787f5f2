use Rattle.std.proofs.Common.{◌≡◌, ◌+◌, ◌*◌, map}
use Rattle.std.specs.List.{range_with_len}
use Rattle.vx_value.specs.Views.{fields_of, type_of}
use Rattle.vx_array.specs.Rows.{lanes_each}
use Rattle.vx_value.specs.Items.{item_at}
use Rattle.vx_array_build.specs.Filled.{rows_lent}
use Rattle.vx_array_build.proofs.Sizes.{fields_size, type_size}
use Rattle.vx_array_build.proofs.columns.+fill.Given as goal

abbrev pub decreases-lanes_of : goal.decreases-lanes_of
decreases-lanes_of l = 2 * type_size (type_of l.dtype.now)

abbrev pub decreases-struct_lanes : goal.decreases-struct_lanes
decreases-struct_lanes l = 2 * fields_size (fields_of l.fields.now) + 1

abbrev pub invariant-struct_lanes-loop-j : goal.invariant-struct_lanes-loop-j
invariant-struct_lanes-loop-j l = lanes_each l.lanes.items ≡ map (λ j. map (item_at j) (rows_lent l.rows)) (range_with_len 0 l.j)
