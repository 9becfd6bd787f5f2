-- Choices between columns.
use Rattle.std.specs.Prelude.{◌≡◌, ℕ, ◌≤◌, List, [], ◌∷◌, map, length, get_or, Bool, Option, Some, None}
use Rattle.std.specs.List.{AllByRecursion}
use Rattle.vx_value.specs.Columns.{Batch}
use Rattle.vx_value.specs.Fits.{IsBatch}
use Rattle.vx_value.specs.Types.{LogicalType, Datum, null}
use Rattle.vx_fn.specs.Values.{is_true}
pub use Rattle.vx_eval_masks.specs.Merges.{first_match}
use Rattle.vx_eval.specs.Columns.{row_at}

-- the rows of each column
abbrev pub rows_in : List Batch → List (List Datum)
rows_in cs = map (λ (c : Batch). c.rows) cs

-- how many rows the first column has
abbrev pub height : List Batch → ℕ
height [] = 0
height (c ∷ cs) = length c.rows

-- every row of each column is one of the type
abbrev pub EachBatch : LogicalType → List (List Datum) → Type 0
EachBatch t cs = AllByRecursion (IsBatch t) cs

-- the column's value at that row, null without a column
abbrev pub else_at : Option (List Datum) → ℕ → Datum
else_at None k = null
else_at (Some c) k = get_or c k null

-- at row k of the columns, the value beside the first true condition, else the ELSE value, else null
abbrev pub matched_at : List (List Datum) → List (List Datum) → Option (List Datum) → ℕ → Datum
matched_at conditions values otherwise k = first_match (row_at conditions k) (row_at values k) (else_at otherwise k)

-- conditions and values in turn, with ELSE last
abbrev pub in_turn : List (List Datum) → List (List Datum) → Option (List Datum) → List (List Datum)
in_turn (c ∷ cs) (v ∷ vs) otherwise = c ∷ v ∷ in_turn cs vs otherwise
in_turn _ _ None = []
in_turn _ _ (Some c) = c ∷ []

-- of columns in turn, the conditions
abbrev pub conditions_in : List (List Datum) → List (List Datum)
conditions_in (c ∷ v ∷ cs) = c ∷ conditions_in cs
conditions_in _ = []

-- and the values beside them
abbrev pub values_in : List (List Datum) → List (List Datum)
values_in (c ∷ v ∷ cs) = v ∷ values_in cs
values_in _ = []

-- and the last column, where it stands alone
abbrev pub alone : List (List Datum) → Option (List Datum)
alone (c ∷ v ∷ cs) = alone cs
alone (c ∷ []) = Some c
alone [] = None

-- for each condition the mask of the rows at which it is true
abbrev pub truths : List (List Datum) → List (List Bool)
truths conditions = map (λ c. map is_true c) conditions

-- from that row on, columns have the same rows
abbrev pub SameRows : ℕ → List (List Datum) → List (List Datum) → Type 0
SameRows from before now = (k : ℕ) → from ≤ k → row_at now k ≡ row_at before k
