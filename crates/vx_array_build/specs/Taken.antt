-- Rows by their indices.
use Rattle.std.specs.Prelude.{◌≡◌, ℕ, ◌<◌, List, map, length, get_or, Bool, false}
use Rattle.std.specs.List.{filter, range_with_len}
use Rattle.vx_value.specs.Types.{Datum, null}
use Rattle.vx_array.specs.declared.validity.Validity.{Validity}
use Rattle.vx_array.specs.Shown.{is_valid, shown_count}

-- the rows of these indices, one after another
abbrev pub rows_at : List Datum → List ℕ → List Datum
rows_at rows indices = map (λ i. get_or rows i null) indices

-- each index is one of n rows
abbrev pub AreWithin : List ℕ → ℕ → Type 0
AreWithin indices n = (k : ℕ) → k < length indices → get_or indices k 0 < n

-- the indices, in order, of the rows at which the mask is true
abbrev pub true_rows : List Bool → List ℕ
true_rows mask = filter (λ k. get_or mask k false) (range_with_len 0 (length mask))

-- the rows at which the mask is true
abbrev pub rows_where : List Datum → List Bool → List Datum
rows_where rows mask = rows_at rows (true_rows mask)

-- the validity of the rows of these indices
pub record IsTaken (v : Validity) (indices : List ℕ) (taken : Validity) : Type 0 where
  pub long : shown_count taken (length indices) ≡ length indices
  pub same : (k : ℕ) → k < length indices → is_valid taken k ≡ is_valid v (get_or indices k 0)
