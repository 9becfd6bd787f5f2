-- Whole numbers of 128 bits that divide.
use Rattle.std.proofs.Common.{◌≡◌, ℕ, ◌<◌, zero, suc, refl, sym, ap, ◌∙◌, arith, ℤ, pos, Option, Some, None, SomeIff, false, FitsSigned, int_div}
use Rattle.std.specs.Int.{w128, cast_signed, cast_unsigned, CanDivide, IsNonZero}
use Rattle.std.specs.Ordering.{int_eq}
use Rattle.std.proofs.lemmas.Bool.Decides.{Decides-int_eq}
use Rattle.std.proofs.lemmas.Int.{to_z-of_z}

-- a number, read from its bits
abbrev read : ℤ → ℤ
read i = cast_signed w128 (cast_unsigned w128 i)

-- the bits of a number that isn't zero aren't zero
pub not_zero : (b : ℤ) → FitsSigned w128 b → int_eq b (pos 0) ≡ false → IsNonZero w128 b
not_zero b fits other = go (cast_unsigned w128 b) refl
  where
    go : (n : ℕ) → cast_unsigned w128 b ≡ n → 0 < n
    go zero none =
        let is : b ≡ pos 0 = sym (to_z-of_z w128 b fits) ∙ ap (cast_signed w128) none in
        let same = (Decides-int_eq b (pos 0)).1 is in
        cc
    go (suc n) some = omega arith

-- a quotient by such a number, of two that are read from their bits, is there exactly where it has 128 bits
pub quotient : (a b : ℤ) (r : Option ℤ) → FitsSigned w128 a → FitsSigned w128 b → IsNonZero w128 b →
    SomeIff r (CanDivide w128 (read a) (read b)) (int_div (read a) (read b)) → SomeIff r (FitsSigned w128 (int_div a b)) (int_div a b)
quotient a b r left right some found = go r (rw (to_z-of_z w128 a left, to_z-of_z w128 b right) at found)
  where
    go : (r : Option ℤ) → SomeIff r (CanDivide w128 a b) (int_div a b) → SomeIff r (FitsSigned w128 (int_div a b)) (int_div a b)
    go None found = λ fits. found (some, fits)
    go (Some q) found = (found.0.1, found.1)
