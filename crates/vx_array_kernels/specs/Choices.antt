-- Rows that are chosen from several columns.
use Rattle.std.specs.Prelude.{◌≡◌, ◌<◌, ℕ, ℤ, pos, List, Bool, false, length, get_or, if◌then◌else◌}
use Rattle.std.specs.List.{AllByRecursion}
use Rattle.vx_value.specs.StructColumns.{row_at}
use Rattle.vx_value.specs.Types.{Datum, null, int, is_null_datum}
use Rattle.vx_fn.specs.Values.{first_true, is_true}
use Rattle.vx_array_loops.specs.WordBits.{each_row}

-- the bits of the first list where the mask is true, and else those of the other
abbrev pub chosen : List Bool → List Bool → List Bool → List Bool
chosen mask xs ys = each_row (length ys) (λ k. if get_or mask k false then get_or xs k false else get_or ys k false)

-- the rows of the first column where the mask is true, and else those of the other
abbrev pub blended : List Bool → List Datum → List Datum → List Datum
blended mask xs ys = each_row (length ys) (λ k. if get_or mask k false then get_or xs k null else get_or ys k null)

-- the numbers that are valid
abbrev pub number_rows : List Bool → List ℤ → List Datum
number_rows valid ns = each_row (length valid) (λ k. if get_or valid k false then int (get_or ns k (pos 0)) else null)

-- the first column's values, and the other's where they are null
abbrev pub filled_rows : ℕ → List Datum → List Datum → List Datum
filled_rows n xs fills = each_row n (λ k. if is_null_datum (get_or xs k null) then get_or fills k null else get_or xs k null)

-- the mask is true just where these rows are
abbrev pub IsMask : List Bool → List Datum → Type 0
IsMask mask rows = (length mask ≡ length rows) × ((k : ℕ) → k < length rows → get_or mask k false ≡ is_true (get_or rows k null))

-- the values where the conditions are true, and else the rows
abbrev pub chosen_rows : ℕ → List Datum → List Datum → List Datum → List Datum
chosen_rows n conditions values rows = each_row n (λ k. if is_true (get_or conditions k null) then get_or values k null else get_or rows k null)

-- the values where the conditions are true, and null elsewhere
abbrev pub masked_rows : ℕ → List Datum → List Datum → List Datum
masked_rows n values conditions = each_row n (λ k. if is_true (get_or conditions k null) then get_or values k null else null)

-- of conditions and values in turn, what CASE gives of each of the first n rows
abbrev pub case_rows : ℕ → List (List Datum) → List Datum
case_rows n cs = each_row n (λ k. first_true (row_at k cs))

-- each column has n rows
abbrev pub EachLong : ℕ → List (List Datum) → Type 0
EachLong n cs = AllByRecursion (λ rows. length rows ≡ n) cs
