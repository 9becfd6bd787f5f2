-- Columns kept one for each field, and what is read of them along paths.
use Rattle.std.specs.Prelude.{ℕ, Bool, true, false, List, [], ◌∷◌, if◌then◌else◌}
use Rattle.std.specs.List.{list_any}
use Rattle.std.specs.Str.{bytes_eq}
use Rattle.vx_value.specs.Columns.{Batch, batch}
use Rattle.vx_value.specs.Paths.{Path}
use Rattle.vx_value.specs.StructColumns.{rows_in, struct_rows, struct_type}
use Rattle.vx_value.specs.Types.{Name}
use Rattle.vx_projection.specs.Kept.{kept_batch}

-- the batch of structs whose fields have these names and stand in these columns
abbrev pub joined : List Name → List Batch → ℕ → Batch
joined names columns rows = batch (struct_type names columns false) (struct_rows rows (rows_in columns))

-- whether the path leads to the field of that name, into it, or to the whole row
abbrev pub reaches : Name → Path → Bool
reaches a [] = true
reaches a (b ∷ path) = bytes_eq a b

-- whether one of the paths does
abbrev pub is_asked : List Path → Name → Bool
is_asked paths a = list_any (reaches a) paths

-- the column of the field as it is, where the paths ask for it, else defaults
abbrev pub read_column : List Path → Name → Batch → Batch
read_column paths a column = if is_asked paths a then column else kept_batch [] column

-- so of each field
abbrev pub read_columns : List Path → List Name → List Batch → List Batch
read_columns paths (a ∷ names) (column ∷ columns) = read_column paths a column ∷ read_columns paths names columns
read_columns paths _ columns = columns
