-- Truth values beside those that say which of them are valid.
use Rattle.std.specs.Prelude.{◌≡◌, ◌<◌, ℕ, List, get_or, length, Bool, false, not, if◌then◌else◌}
use Rattle.vx_value.specs.Types.{Datum, null, bool, is_null_datum}
use Rattle.vx_array_loops.specs.WordBits.{each_row}
use Rattle.vx_array.specs.declared.validity.Validity.{Validity}
use Rattle.vx_array.specs.Shown.{HasRows, is_valid}

-- the truth value, where it is valid
abbrev pub truth : Bool → Bool → Datum
truth v b = if v then bool b else null

-- the first n truth values, each where it is valid
abbrev pub truth_rows : ℕ → List Bool → List Bool → List Datum
truth_rows n valid bits = each_row n (λ k. truth (get_or valid k false) (get_or bits k false))

-- whether a value is null
abbrev pub null_told : Datum → Datum
null_told d = bool (is_null_datum d)

-- whether it isn't
abbrev pub value_told : Datum → Datum
value_told d = bool (not (is_null_datum d))

-- what g gives of the values of each of the first n rows of two columns
abbrev pub both_rows : ℕ → (Datum → Datum → Datum) → List Datum → List Datum → List Datum
both_rows n g xs ys = each_row n (λ k. g (get_or xs k null) (get_or ys k null))

-- the validity says of each row whether it is null
abbrev pub TellsNulls : Validity → List Datum → Type 0
TellsNulls v rows = HasRows v (length rows) × ((k : ℕ) → k < length rows → is_null_datum (get_or rows k null) ≡ not (is_valid v k))

-- the bits say of each row whether it is null
abbrev pub IsNulls : List Bool → List Datum → Type 0
IsNulls bits rows = (length bits ≡ length rows) × ((k : ℕ) → k < length rows → get_or bits k false ≡ is_null_datum (get_or rows k null))

-- the bits say of each row whether it isn't null
abbrev pub AreValues : List Bool → List Datum → Type 0
AreValues bits rows = (length bits ≡ length rows) × ((k : ℕ) → k < length rows → is_null_datum (get_or rows k null) ≡ not (get_or bits k false))
