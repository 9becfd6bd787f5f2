-- Arithmetic on the numbers of two columns, and the rows in which it has no result.
use Rattle.std.specs.Prelude.{◌≡◌, ◌<◌, ℕ, ℤ, Bool, true, false, List, [], ◌∷◌, get_or, IfOk, IfSome, Option, Result, if◌then◌else◌}
use Rattle.vx_floats.specs.declared.arithmetic.Arithmetic.{Arithmetic}
use Rattle.vx_value.specs.Types.{Datum, null, int, ty, Shape}
use Rattle.vx_fn.specs.Faults.{has_fault}
use Rattle.vx_fn.specs.Values as values
use Rattle.vx_array_loops.specs.Computations.{computed, fails}
use Rattle.vx_array_loops.specs.declared.computation.Computation.{Computation}
use Rattle.vx_array_loops.specs.WordBits.{each_row}
use Rattle.vx_array.specs.declared.lanes.Lanes.{Lanes}
use Rattle.vx_array.specs.declared.validity.Validity.{Validity}
use Rattle.vx_array.specs.Rows.{lanes_rows}
use Rattle.vx_array.specs.Shown.{is_valid}
use Rattle.vx_array_kernels.specs.declared.pair.Pair.{Pair}
use Rattle.vx_array_kernels.specs.Found.{pair_rows}

-- the number of each of the first n rows that is valid
abbrev pub valid_rows : ℕ → Validity → (ℕ → ℤ) → List Datum
valid_rows n v f = each_row n (λ k. if is_valid v k then int (f k) else null)

-- what is computed of two numbers, where it doesn't fail, which the flag tells
abbrev pub IsComputed : {A : Type 0} → (ℤ → Bool) → (A → ℤ) → Computation → ℤ → ℤ → A → Bool → Type 0
IsComputed fits num c i j x failed = (failed ≡ fails fits c i j) × (failed ≡ false → num x ≡ computed c i j)

-- the first n items are what is computed of the two numbers of each row, where it doesn't fail; it fails in none that is valid
abbrev pub AreComputed : {A : Type 0} → (ℤ → Bool) → (A → ℤ) → Computation → Validity → (ℕ → ℤ) → (ℕ → ℤ) → ℕ → List A → Type 0
AreComputed {A = A} fits num c v f g n xs =
    ((k : ℕ) → k < n → is_valid v k ≡ true → fails fits c (f k) (g k) ≡ false) × ((k : ℕ) (x : A) → k < n → x ≡ get_or xs k x → fails fits c (f k) (g k) ≡ false → num x ≡ computed c (f k) (g k))

-- lanes that are found hold what is computed of the two numbers of each row that is valid, and it fails in none of these
abbrev pub FindsComputed : {E : Type 0} → (ℤ → Bool) → Computation → ℕ → Validity → (ℕ → ℤ) → (ℕ → ℤ) → Result (Option Lanes) E → Type 0
FindsComputed fits c n v f g r =
    IfOk r (λ found. IfSome found (λ out. (lanes_rows out ≡ valid_rows n v (λ k. computed c (f k) (g k))) × ((k : ℕ) → k < n → is_valid v k ≡ true → fails fits c (f k) (g k) ≡ false)))

-- no row has a fault, where the first column has values of the shape
abbrev pub NoneFaults : Arithmetic → Shape → Pair → Type 0
NoneFaults a s q = (m : Bool) (k : ℕ) → k < q.count → has_fault a (ty s m ∷ []) (get_or (lanes_rows q.lhs.now) k null ∷ get_or (lanes_rows q.rhs.now) k null ∷ []) ≡ false

-- lanes that are found hold what is computed, and no row has a fault
abbrev pub FindsResults : {E : Type 0} → Arithmetic → Shape → Pair → Result (Option Lanes) E → Type 0
FindsResults a s q r = IfOk r (λ found. IfSome found (λ out. (lanes_rows out ≡ pair_rows (values.computed a) q) × NoneFaults a s q))
