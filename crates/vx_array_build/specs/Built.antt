-- Arrays out of vectors.
use Rattle.std.specs.Prelude.{ℕ, List, Option, Some, None, is_some, Result, Ok, Err, if◌then◌else◌}
use Rattle.vx_dtype.specs.declared.error.VortexError.{VortexError}
use Rattle.vx_dtype.specs.declared.error.VortexError.TheVariants.{LengthMismatch}
use Rattle.vx_value.specs.Types.{Name, ty, Shape, Datum}
use Rattle.vx_value.specs.Columns.{Batch, batch}
use Rattle.vx_value.specs.StructColumns.{all_long, rows_in, struct_rows, struct_type}
use Rattle.vx_array.specs.declared.validity.Validity.{Validity}
use Rattle.vx_array.specs.Shown.{shown}

-- the values, with null in place of those that a validity says are null
abbrev pub shown_by : Option Validity → List Datum → List Datum
shown_by None ds = ds
shown_by (Some v) ds = shown v ds

-- the column of these values, nullable where there is a validity
abbrev pub column_by : Shape → Option Validity → List Datum → Batch
column_by s v ds = batch (ty s (is_some v)) (shown_by v ds)

-- the column of the structs of the columns' n rows, or the refusal where some column has another number of rows
abbrev pub structs_by : List Name → List Batch → ℕ → Option Validity → Result Batch VortexError
structs_by names cs n v = if all_long n cs then Ok (batch (struct_type names cs (is_some v)) (shown_by v (struct_rows n (rows_in cs)))) else Err LengthMismatch
