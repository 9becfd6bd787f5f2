-- What arithmetic gives at a row of two whole numbers, or that row's fault.
use Rattle.std.proofs.Common.{◌≡◌, ℕ, [], ◌∷◌, refl, sym, ap, ◌∙◌, arith, ℤ, Result, Ok, Err, FitsSigned, MatchResult, Bool, true, false}
use Rattle.std.specs.Int.{w128}
use Rattle.vx_dtype.specs.declared.error.VortexError.{VortexError}
use Rattle.vx_dtype.specs.declared.error.VortexError.TheVariants.{AddOverflow, DivisionByZero}
use Rattle.vx_floats.specs.declared.arithmetic.Arithmetic.{Arithmetic}
use Rattle.vx_value.specs.declared.value.Value.{Value}
use Rattle.vx_value.specs.Types.{LogicalType, int}
use Rattle.vx_value.specs.Views.{value_of}
use Rattle.vx_fn.specs.Faults.{divides_by_zero}
use Rattle.vx_fn.specs.Values.{whole_result}
use Rattle.vx_eval.specs.Kernels.{is_between, ComputesRow, IsRange}

-- a range of numbers of 128 bits has no number that has more
pub too_long : (lowest highest i : ℤ) → FitsSigned w128 lowest → FitsSigned w128 highest → (FitsSigned w128 i → ⊥) → is_between lowest highest i ≡ false
too_long lowest highest i low high long = go (is_between lowest highest i) refl
  where
    go : (b : Bool) → is_between lowest highest i ≡ b → is_between lowest highest i ≡ false
    go false e = e
    go true e = absurd (long (grind (arith, low, high, e)))

module _ (a : Arithmetic) (t : LogicalType) (n : ℕ) (lowest highest i j : ℤ) where
  pub by_zero : divides_by_zero a (int i ∷ int j ∷ []) ≡ true → ComputesRow a t n (int i) (int j) (Err (DivisionByZero n))
  by_zero zero = (rw zero refl, rw zero refl)

  pub beyond : IsRange t lowest highest → divides_by_zero a (int i ∷ int j ∷ []) ≡ false → is_between lowest highest (whole_result a i j) ≡ false → ComputesRow a t n (int i) (int j) (Err (AddOverflow n))
  beyond range other out = (rw other refl, rw (other, range (whole_result a i j), out) refl)

  pub ranged : (r : Result Value VortexError) (m : ℤ) → IsRange t lowest highest → divides_by_zero a (int i ∷ int j ∷ []) ≡ false → m ≡ whole_result a i j →
      MatchResult r (λ v. (value_of v ≡ int m) × (is_between lowest highest m ≡ true)) (λ e. (e ≡ AddOverflow n) × (is_between lowest highest m ≡ false)) → ComputesRow a t n (int i) (int j) r
  ranged (Ok v) m range other is (value, within) = (value ∙ ap int is, rw (other, range (whole_result a i j), ← is, within) refl)
  ranged (Err e) m range other is (fault, out) =
      let most = beyond range other (ap (is_between lowest highest) (sym is) ∙ out) in
      (fault ∙ most.0, most.1)
