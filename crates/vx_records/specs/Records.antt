-- Records, what an expression means at them, and those of which it is true.
use Rattle.std.specs.Prelude.{◌++◌, ℕ, List, [], ◌∷◌, map, Bool, count_by}
use Rattle.std.specs.List.{filter, flat_map}
use Rattle.vx_value.specs.Types.{LogicalType, Datum}
use Rattle.vx_value.specs.Views.{value_of}
use Rattle.vx_fn.specs.Values.{is_true}
use Rattle.vx_tree.specs.Meaning.{mean}
use Rattle.vx_tree.specs.Trees.{Tree}
use Rattle.vx_records.specs.declared.record.Record.{Record as Read}

-- a record as it stands in its file, and the row that it is
pub record Record : Type 0 where
  pub text : List ℕ
  pub row : Datum

-- this text, which is that row
abbrev pub record_as : List ℕ → Datum → Record
record_as s v = record { text = s; row = v }

-- what was read
abbrev pub record_of : Read → Record
record_of r = record_as r.text.items (value_of r.row)

-- their texts
abbrev pub texts : List Record → List (List ℕ)
texts rs = map (λ (r : Record). r.text) rs

-- their rows
abbrev pub rows : List Record → List Datum
rows rs = map (λ (r : Record). r.row) rs

-- what the expression over the scope's type s means at each of them, in order
abbrev pub meanings : Tree → LogicalType → List Record → List Datum
meanings e s rs = map (λ (r : Record). mean e s r.row) rs

-- whether the expression is true of the record
abbrev pub holds : Tree → LogicalType → Record → Bool
holds e s r = is_true (mean e s r.row)

-- the records of which the expression is true, in order
abbrev pub kept : Tree → LogicalType → List Record → List Record
kept e s rs = filter (holds e s) rs

-- how many these are
abbrev pub kept_count : Tree → LogicalType → List Record → ℕ
kept_count e s rs = count_by (holds e s) rs

-- the record as it stands, on a line
abbrev pub record_line : Record → List ℕ
record_line r = r.text ++ 10 ∷ []

-- the records of which the expression is true, each on a line, in order
abbrev pub kept_lines : Tree → LogicalType → List Record → List ℕ
kept_lines e s rs = flat_map record_line (filter (holds e s) rs)
