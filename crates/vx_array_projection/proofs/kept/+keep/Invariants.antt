use Rattle.std.proofs.Common.{◌≡◌, ◌++◌, drop}
use Rattle.vx_value.specs.Views.{type_of, fields_of, fields_view, names_of}
use Rattle.vx_array.specs.Rows.{lanes_each}
use Rattle.vx_projection.specs.Wanted.{lent_paths}
use Rattle.vx_projection.proofs.Sizes.{type_size, fields_size}
use Rattle.vx_array_projection.specs.Columns.{columns_kept}
use Rattle.vx_array_projection.proofs.kept.+keep.Given as goal

abbrev pub decreases-kept_along : goal.decreases-kept_along
decreases-kept_along l = type_size (type_of l.dtype.now)

abbrev pub decreases-kept_of_each : goal.decreases-kept_of_each
decreases-kept_of_each l = fields_size (fields_of l.fields.now)

abbrev pub invariant-kept_of_each-loop-i : goal.invariant-kept_of_each-loop-i
invariant-kept_of_each-loop-i l =
    columns_kept (lent_paths l.fn.paths.items) (fields_of l.fields) (lanes_each l.columns)
    ≡ lanes_each l.made.items ++ columns_kept (lent_paths l.left.items) (fields_view (drop l.i (names_of l.fields)) (drop l.i l.types)) (lanes_each (drop l.i l.columns))
