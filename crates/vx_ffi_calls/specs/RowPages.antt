-- What the call of `eval` answers.
use Rattle.std.specs.Prelude.{◌≡◌, ℕ, List}
use Rattle.std.specs.List.{flat_map}
use Rattle.vx_value.specs.Columns.{Batch}
use Rattle.vx_value.specs.Types.{LogicalType, Datum}
use Rattle.vx_tree.specs.Trees.{Tree}
use Rattle.vx_data.specs.Lines.{json_lines}
use Rattle.vx_records.specs.Records.{Record, meanings}
use Rattle.vx_command_pages.specs.Inputs.{ReadsAs, ReadsType}

-- the rows of columns, one column behind the other
abbrev pub rows_in : List Batch → List Datum
rows_in columns = flat_map (λ (c : Batch). c.rows) columns

-- a line of JSON for each of them
abbrev pub lines_of : List Batch → List ℕ
lines_of columns = flat_map (λ (c : Batch). json_lines c.type c.rows) columns

-- the lines are of the values that the expression means over type s at some records
abbrev pub AreMeant : Tree → LogicalType → List ℕ → Type 0
AreMeant e s page = (rs : List Record) × (columns : List Batch) × (rows_in columns ≡ meanings e s rs) × (page ≡ lines_of columns)

-- the page has a line for each value that the expression which the texts are read as means at some records
abbrev pub IsRowsPage : List ℕ → List ℕ → List ℕ → Type 0
IsRowsPage expression schema page = (e : Tree) × (s : LogicalType) × ReadsAs expression s e × ReadsType schema s × AreMeant e s page
