-- Buffers that are filled from values.
use Rattle.std.specs.Prelude.{◌≡◌, ℕ, ◌<◌, List, map, length, get_or, Bool, false, not}
use Rattle.std.specs.Borrow.{Bor}
use Rattle.std.specs.List.{range_with_len}
use Rattle.vx_value.specs.declared.value.Value.{Value}
use Rattle.vx_value.specs.Types.{Datum, null, struct_of, is_null_datum}
use Rattle.vx_value.specs.Fields.{data_of}
use Rattle.vx_value.specs.Views.{value_of}
use Rattle.vx_array.specs.declared.validity.Validity.{Validity}
use Rattle.vx_value.specs.Items.{item_at}
use Rattle.vx_array.specs.Shown.{is_valid, shown_count}

-- what values that are lent stand for
abbrev pub rows_lent : List (Bor Value) → List Datum
rows_lent values = map (λ v. value_of v.now) values

-- the values are the first n rows, where those aren't null
pub record IsFilled (ds rows : List Datum) (n : ℕ) : Type 0 where
  pub long : length ds ≡ n
  pub same : (k : ℕ) → k < n → is_null_datum (get_or rows k null) ≡ false → get_or ds k null ≡ get_or rows k null

-- the rows that are valid are those that aren't null
pub record IsValidity (v : Validity) (rows : List Datum) : Type 0 where
  pub long : shown_count v (length rows) ≡ length rows
  pub same : (k : ℕ) → k < length rows → is_valid v k ≡ not (is_null_datum (get_or rows k null))

-- the truth values say of the first n rows which aren't null
pub record IsSaid (valid : List Bool) (rows : List Datum) (n : ℕ) : Type 0 where
  pub long : length valid ≡ n
  pub same : (k : ℕ) → k < n → get_or valid k false ≡ not (is_null_datum (get_or rows k null))

-- a value that is a struct is that of its first n items
abbrev pub HasItems : ℕ → Datum → Type 0
HasItems n v = is_null_datum v ≡ false → v ≡ struct_of (data_of (map (λ j. item_at j v) (range_with_len 0 n)))
