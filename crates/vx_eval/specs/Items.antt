-- Items of structs, and truth values told of them. No public contract names this file.
use Rattle.std.specs.Prelude.{◌≡◌, ℕ, List, [], ◌∷◌, map, length, Option, Some, None, Bool, true, false}
use Rattle.std.specs.List.{AllByRecursion}
pub use Rattle.vx_value.specs.Items.{datum_at, item_at}
pub use Rattle.vx_value.specs.StructColumns.{HaveRow}
use Rattle.vx_value.specs.Types.{Datum, null, bool}
use Rattle.vx_fn.specs.Functions.{Operation, compares, computes}
use Rattle.vx_fn.specs.Values.{binary_value, kleene_and}
use Rattle.vx_eval_masks.specs.Merges.{each_row, row_at}

-- the value that a truth value is, or null
abbrev pub truth_datum : Option Bool → Datum
truth_datum None = null
truth_datum (Some b) = bool b

-- whether the operation is one of the six comparisons
abbrev pub is_comparison : Operation → Bool
is_comparison (compares c) = true
is_comparison _ = false

-- whether the operation is arithmetic
abbrev pub is_arithmetic : Operation → Bool
is_arithmetic (computes a) = true
is_arithmetic _ = false

-- what the operation tells of the item at that place of each struct and of one value
abbrev pub compared_items : Operation → ℕ → Datum → List Datum → List Datum
compared_items op k d vs = map (λ v. binary_value op (item_at k v) d) vs

-- each column has n values
abbrev pub AllLong : ℕ → List (List Datum) → Type 0
AllLong n cs = AllByRecursion (λ c. length c ≡ n) cs

-- the And of all of them, and true of none
abbrev pub all_of : List Datum → Datum
all_of [] = bool true
all_of (v ∷ vs) = kleene_and v (all_of vs)

-- the same of the values that each of the first n rows has in the columns
abbrev pub conjoined : ℕ → List (List Datum) → List Datum
conjoined n cs = each_row n (λ k. all_of (row_at cs k))
