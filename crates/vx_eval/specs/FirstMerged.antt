-- Columns beside masks, merged.
use Rattle.std.specs.Prelude.{◌≡◌, ◌<◌, ℕ, List, map, length, get_or, Bool, true, false, ◌||◌}
use Rattle.std.specs.List.{list_any}
use Rattle.vx_value.specs.Columns.{Batch}
use Rattle.vx_value.specs.Types.{Datum, null}
use Rattle.vx_eval_masks.specs.Merges.{merged_at}
pub use Rattle.vx_eval_masks.specs.Choices.{masks_in}

-- the rows of the columns beside the masks
abbrev pub columns_in : List (List Bool × Batch) → List (List Datum)
columns_in branches = map (λ b. b.1.rows) branches

-- each row is in one of the masks, the last one among them
abbrev pub InSomeMask : List (List Bool × Batch) → List Bool → Type 0
InSomeMask branches rest = (k : ℕ) → k < length rest → (get_or rest k false || list_any (λ b. get_or b.0 k false) branches) ≡ true

-- at row k the value of the first column whose mask is true, else that of the last column
abbrev pub first_merged : List (List Bool × Batch) → List Datum → ℕ → Datum
first_merged branches otherwise k = merged_at (masks_in branches) (columns_in branches) (get_or otherwise k null) k
