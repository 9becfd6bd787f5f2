-- What the kernels of single functions are told. No public contract names this file.
use Rattle.std.specs.Prelude.{◌≡◌, ℕ, ◌<◌, ℤ, List, [], ◌∷◌, Option, Some, None, Result, Ok, MatchResult, Bool, true, false, not, ◌&&◌, if◌then◌else◌}
use Rattle.std.specs.Int.Signed.{le_z}
use Rattle.vx_dtype.specs.declared.error.VortexError.{VortexError}
use Rattle.vx_floats.specs.declared.arithmetic.Arithmetic.{Arithmetic}
use Rattle.vx_value.specs.declared.value.Value.{Value}
use Rattle.vx_value.specs.Types.{LogicalType, Datum, null, bool, int, utf8, is_null_datum}
use Rattle.vx_value.specs.Views.{value_of}
use Rattle.std.specs.declared.cmp.Ordering.{Ordering}
use Rattle.vx_fn.specs.Functions.{Operation, compares}
use Rattle.vx_fn.specs.Faults.{has_fault, is_outside, row_fault}
use Rattle.vx_fn.specs.Values.{agrees, computed, flipped, is_true}
use Rattle.vx_eval_like.specs.Patterns.{Compiled, accepts}
use Rattle.vx_eval.specs.Columns.{truth_datum}
pub use Rattle.vx_eval.specs.Items.{is_comparison}
pub use Rattle.vx_value.specs.Items.{items_at}

-- where a call answers at one of the first n rows, it is what g gives there
abbrev pub AnswersRows : {E : Type 0} → (ℕ → Result Value E → Type 0) → ℕ → (ℕ → Datum) → Type 0
AnswersRows post n g = (i : ℕ) (v : Value) → i < n → post i (Ok v) → value_of v ≡ g i

-- what a call tells at each of the first n rows is what g gives there
abbrev pub TellsRows : (ℕ → Option Bool → Type 0) → ℕ → (ℕ → Datum) → Type 0
TellsRows post n g = (i : ℕ) (t : Option Bool) → i < n → post i t → truth_datum t ≡ g i

-- what a call tests at each of the first n rows is whether g gives true there
abbrev pub TestsRows : (ℕ → Bool → Type 0) → ℕ → (ℕ → Datum) → Type 0
TestsRows post n g = (i : ℕ) (b : Bool) → i < n → post i b → b ≡ is_true (g i)

-- where a call answers at one of the first n rows and its value, it is what g makes of them
abbrev pub MakesRows : {E : Type 0} → (ℕ → Value → Result Value E → Type 0) → ℕ → (ℕ → Datum → Datum) → Type 0
MakesRows post n g = (i : ℕ) (x v : Value) → i < n → post i x (Ok v) → value_of v ≡ g i (value_of x)

-- whether the number lies between the two, or is one of them
abbrev pub is_between : ℤ → ℤ → ℤ → Bool
is_between lowest highest i = le_z lowest i && le_z i highest

-- the whole numbers of the type are those from the lowest to the highest
abbrev pub IsRange : LogicalType → ℤ → ℤ → Type 0
IsRange t lowest highest = (i : ℤ) → is_outside (t ∷ []) (int i) ≡ not (is_between lowest highest i)

-- a call gives what is computed of a row's two values, or the row's fault if it has one
abbrev pub ComputesRow : Arithmetic → LogicalType → ℕ → Datum → Datum → Result Value VortexError → Type 0
ComputesRow a t n v w r = MatchResult r
    (λ x. (value_of x ≡ computed a v w) × (has_fault a (t ∷ []) (v ∷ w ∷ []) ≡ false))
    (λ e. (e ≡ row_fault a (v ∷ w ∷ []) n) × (has_fault a (t ∷ []) (v ∷ w ∷ []) ≡ true))

-- whether an order is one that a comparison asks for
abbrev pub agrees_with : Operation → Ordering → Bool
agrees_with (compares c) o = agrees c o
agrees_with _ o = false

-- the bytes of a text
abbrev pub text_of : Datum → Option (List ℕ)
text_of (utf8 t) = Some t
text_of _ = None

-- whether a pattern that was read accepts the text, or not where it is negated; null of what is no text
abbrev pub accepted : Bool → Compiled → Datum → Datum
accepted negated p (utf8 t) = bool (flipped negated (accepts p t))
accepted negated p _ = null

-- whether a value is null, or another one
abbrev pub null_told : Bool → Datum → Datum
null_told wanted d = if wanted then bool (is_null_datum d) else bool (not (is_null_datum d))
