-- Rows of texts or of bytes, and the columns that they are taken from.
use Rattle.std.specs.Prelude.{ℕ, List, [], Bool, length, get_or, if◌then◌else◌}
use Rattle.vx_value.specs.Types.{Datum, null}
use Rattle.vx_array_loops.specs.WordBits.{each_row}

-- what the bytes of a row are, or null where it isn't valid
abbrev pub shown_row : (List ℕ → Datum) → Bool → List ℕ → Datum
shown_row f valid bytes = if valid then f bytes else null

-- row by row what stands there in the column of that number
abbrev pub picked_rows : List (List Datum) → List ℕ → List Datum
picked_rows columns choices = each_row (length choices) (λ k. get_or (get_or columns (get_or choices k 0) []) k null)
