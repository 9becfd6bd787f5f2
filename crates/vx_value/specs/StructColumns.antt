-- Columns joined into a column of structs, row by row.
use Rattle.std.specs.Prelude.{◌≡◌, ℕ, ◌<◌, ◌==◌, Bool, List, map, length, get_or, None, All, Result, Ok, Err, if◌then◌else◌}
use Rattle.std.specs.List.{list_all, range_with_len}
use Rattle.std.specs.Global.{Vec}
use Rattle.vx_dtype.specs.declared.error.VortexError.{VortexError}
use Rattle.vx_dtype.specs.declared.error.VortexError.TheVariants.{LengthMismatch}
use Rattle.vx_value.specs.declared.value.Value.{Value}
use Rattle.vx_value.specs.Types.{Name, LogicalType, ty, struct, Datum, null, struct_of}
use Rattle.vx_value.specs.Fields.{fields_named, data_of}
use Rattle.vx_value.specs.Views.{value_of}
use Rattle.vx_value.specs.Columns.{Batch, batch, first_misfit}

-- the rows of each column
abbrev pub rows_in : List Batch → List (List Datum)
rows_in cs = map (λ (c : Batch). c.rows) cs

-- the type of each column
abbrev pub types_in : List Batch → List LogicalType
types_in cs = map (λ (c : Batch). c.type) cs

-- what each of some lists of values stands for
abbrev pub columns_of : List (Vec Value) → List (List Datum)
columns_of columns = map (λ (values : Vec Value). map value_of values.items) columns

-- each row of each column is a value of the column's type
abbrev pub EachFit : List Batch → Type 0
EachFit cs = All (λ (c : Batch). first_misfit c.type c.rows ≡ None) cs

-- whether each column has n rows
abbrev pub all_long : ℕ → List Batch → Bool
all_long n cs = list_all (λ (c : Batch). length c.rows == n) cs

-- each column has a row of that index
abbrev pub HaveRow : ℕ → List (List Datum) → Type 0
HaveRow k columns = All (λ rows. k < length rows) columns

-- row k of columns: each column's value there
abbrev pub row_at : ℕ → List (List Datum) → List Datum
row_at k columns = map (λ rows. get_or rows k null) columns

-- the struct of row k of columns
abbrev pub struct_at : List (List Datum) → ℕ → Datum
struct_at columns k = struct_of (data_of (row_at k columns))

-- the structs of the first n rows of columns
abbrev pub struct_rows : ℕ → List (List Datum) → List Datum
struct_rows n columns = map (struct_at columns) (range_with_len 0 n)

-- the struct type of the columns' types under these names
abbrev pub struct_type : List Name → List Batch → Bool → LogicalType
struct_type names cs n = ty (struct (fields_named names (types_in cs))) n

-- the column of the structs of the columns' n rows, or the refusal where some column has another number of rows
abbrev pub struct_column : List Name → List Batch → ℕ → Bool → Result Batch VortexError
struct_column names cs n nullable = if all_long n cs then Ok (batch (struct_type names cs nullable) (struct_rows n (rows_in cs))) else Err LengthMismatch
