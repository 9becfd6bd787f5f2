-- Which rows are shown, and which are null.
use Rattle.std.specs.Prelude.{ℕ, ◌≤◌, List, [], ◌∷◌, map, length, get_or, Bool, true, false, if◌then◌else◌, min}
use Rattle.vx_value.specs.Types.{Datum, null}
use Rattle.vx_array.specs.declared.validity.Validity.{Validity}
use Rattle.vx_array.specs.declared.validity.Validity.TheVariants.{All, Nothing, Rows}

-- the values whose bit is true, and null in place of the others, as long as both last
abbrev pub masked : List Bool → List Datum → List Datum
masked (b ∷ bs) (d ∷ ds) = (if b then d else null) ∷ masked bs ds
masked _ _ = []

-- the values, with null in place of those that aren't valid
abbrev pub shown : Validity → List Datum → List Datum
shown All ds = ds
shown Nothing ds = map (λ _. null) ds
shown (Rows bits) ds = masked bits ds

-- whether the row isn't null
abbrev pub is_valid : Validity → ℕ → Bool
is_valid All i = true
is_valid Nothing i = false
is_valid (Rows bits) i = get_or bits i false

-- how many rows there are, of so many values
abbrev pub shown_count : Validity → ℕ → ℕ
shown_count All n = n
shown_count Nothing n = n
shown_count (Rows bits) n = min (length bits) n

-- so many rows are said to be valid or not
abbrev pub HasRows : Validity → ℕ → Type 0
HasRows All n = Unit {0}
HasRows Nothing n = Unit {0}
HasRows (Rows bits) n = n ≤ length bits
