-- Arrays: rows in buffers beside their type, seen as the batch that a column with the same rows is.
use Rattle.std.specs.Prelude.{ℕ, List, Option, Some, None, Result, Ok, Err}
use Rattle.vx_dtype.specs.declared.error.VortexError.{VortexError}
use Rattle.vx_dtype.specs.declared.error.VortexError.TheVariants.{RowMisfit}
use Rattle.vx_value.specs.Types.{LogicalType, Datum}
use Rattle.vx_value.specs.Columns.{Batch, batch, first_misfit}

-- the batch, unless there is a first row that isn't a value of its type
abbrev pub unless_misfit : Option ℕ → Batch → Result Batch VortexError
unless_misfit None b = Ok b
unless_misfit (Some row) b = Err (RowMisfit row)

-- these rows of that type, or the refusal of the first row that isn't a value of it
abbrev pub batch_or_misfit : LogicalType → List Datum → Result Batch VortexError
batch_or_misfit t rows = unless_misfit (first_misfit t rows) (batch t rows)
