-- Columns between two bounds.
use Rattle.std.specs.Prelude.{◌≡◌, List, length}
use Rattle.vx_fn.specs.Values.{kleene_and}
use Rattle.vx_value.specs.Types.{Datum}
use Rattle.vx_array.specs.Rows.{lanes_rows}
use Rattle.vx_array_kernels.specs.declared.ranges.Range.{Range}
use Rattle.vx_array_kernels.specs.Truths.{both_rows}

-- each column has as many rows as the range says
abbrev pub AreLong : Range → Type 0
AreLong r = (length (lanes_rows r.lower.now) ≡ r.count) × (length (lanes_rows r.column.now) ≡ r.count) × (length (lanes_rows r.upper.now) ≡ r.count)

-- whether f holds of the lower bound and the column, and g of the column and the upper bound, row by row
abbrev pub range_rows : (Datum → Datum → Datum) → (Datum → Datum → Datum) → Range → List Datum
range_rows f g r =
    both_rows r.count kleene_and (both_rows r.count f (lanes_rows r.lower.now) (lanes_rows r.column.now)) (both_rows r.count g (lanes_rows r.column.now) (lanes_rows r.upper.now))
