-- The column that buffers hold.
use Rattle.std.specs.Prelude.{ℕ, ◌==◌, List, length, Result, Ok, Err, if◌then◌else◌}
use Rattle.std.specs.Result.{result_map_both}
use Rattle.vx_value.specs.Types.{LogicalType, Datum}
use Rattle.vx_value.specs.Fits.{fits}
use Rattle.vx_value.specs.Columns.{Batch, batch}
use Rattle.vx_data_buffers.specs.Results.{and_then, and_so, each_from}
use Rattle.vx_data_buffers.specs.Layout.{buffer_count, value_at}
use Rattle.vx_data_buffers.specs.declared.fault.Fault.{Fault}
use Rattle.vx_data_buffers.specs.declared.error.BufferError.{BufferError}
use Rattle.vx_data_buffers.specs.declared.error.BufferError.TheVariants.{OutOfMemory, BufferCount, EndsEarly, Unordered, NotUtf8, RowMisfit}

-- the refusal where that stands in the way of the row
abbrev pub in_row : ℕ → Fault → BufferError
in_row row Fault.OutOfMemory = OutOfMemory
in_row row (Fault.EndsEarly buffer) = EndsEarly buffer row
in_row row (Fault.Unordered buffer) = Unordered buffer row
in_row row (Fault.NotUtf8 buffer) = NotUtf8 buffer row

-- the value, if it is one of the type
abbrev pub fitting : LogicalType → ℕ → Datum → Result Datum BufferError
fitting t row v = if fits v t then Ok v else Err (RowMisfit row)

-- the value of that row
abbrev pub row_of : List (List ℕ) → LogicalType → ℕ → Result Datum BufferError
row_of buffers t row = and_then (result_map_both (λ v. v) (in_row row) (value_at buffers t 0 row)) (fitting t row)

-- the column of so many rows
abbrev pub column_said : List (List ℕ) → LogicalType → ℕ → Result Batch BufferError
column_said buffers t rows =
    if length buffers == buffer_count t then and_so (each_from (row_of buffers t) 0 rows) (batch t)
    else Err (BufferCount (buffer_count t) (length buffers))
