-- The lowest bit and all above it.
use Rattle.std.proofs.Common.{◌≡◌, ℕ, ◌+◌, ◌-◌, ◌*◌, ◌^◌, ◌%◌, ◌/◌, ◌<◌, ◌≤◌, eqb, min, suc, zero, sym, ap, ◌∙◌, arith, Bool, true, false, ◌&&◌, ◌||◌, ⊎_elim}
use Rattle.std.specs.Int.{bit_at}
use Rattle.std.specs.Int.RustNames.{bit_and}
use Rattle.std.proofs.lemmas.Bool.{cases_lt}
use Rattle.std.proofs.lemmas.Bool.Decides.{nat_tests}
use Rattle.std.proofs.lemmas.Nat.{pow_pos}
use Rattle.std.proofs.Math.Nat.{div-add-mod, mul_comm}
use Rattle.std.proofs.lemmas.Nat.Bits.{bit_at-lt, bit_at-zero, bit_at_and, bit_at_ones, bit_at_cat_low, bit_at_cat_high}
use Rattle.vx_array_loops.specs.WordBits.{bit_of}

low_bits : (n k i : ℕ) → i < k → bit_at (n % 2 ^ k) i ≡ bit_at n i
low_bits n k i low = sym (ap (λ m. bit_at m i) whole ∙ bit_at_cat_low (n / 2 ^ k) k (n % 2 ^ k) i low)
  where
    whole : n ≡ n / 2 ^ k * 2 ^ k + n % 2 ^ k
    whole = sym (div-add-mod n (2 ^ k)) ∙ ap (λ m. m + n % 2 ^ k) (mul_comm (2 ^ k) (n / 2 ^ k))

add_zero : (m : ℕ) → m + 0 ≡ m
add_zero m = omega arith

-- bits that are moved up
pub moved : (n s i : ℕ) → i < 64 → s ≤ i → bit_at (n * 2 ^ s % 2 ^ 64) i ≡ bit_at n (i - s)
moved n s i low high = low_bits (n * 2 ^ s) 64 i low ∙ ap (λ m. bit_at m i) (sym (add_zero (n * 2 ^ s))) ∙ bit_at_cat_high n s 0 i (pow_pos s) high

pub moved_off : (n s i : ℕ) → i < 64 → i < s → bit_at (n * 2 ^ s % 2 ^ 64) i ≡ 0
moved_off n s i low below = low_bits (n * 2 ^ s) 64 i low ∙ ap (λ m. bit_at m i) (sym (add_zero (n * 2 ^ s))) ∙ bit_at_cat_low n s 0 i below ∙ bit_at-zero i

-- all bits from the lowest one on
all_above : (t k : ℕ) → k < 64 → t ≤ k → bit_of (18446744073709551615 * 2 ^ t % 18446744073709551616) k ≡ true
all_above t k low ge = ap (λ n. eqb n 1) (moved 18446744073709551615 t k low ge ∙ bit_at_ones 64 (k - t) (omega arith))

none_below : (t k : ℕ) → k < 64 → k < t → bit_of (18446744073709551615 * 2 ^ t % 18446744073709551616) k ≡ false
none_below t k low lt = ap (λ n. eqb n 1) (moved_off 18446744073709551615 t k low lt)

-- t is the lowest bit of n
abbrev pub IsLowest : ℕ → ℕ → Type 0
IsLowest n t = (bit_at n t ≡ 1) × ((i : ℕ) → i < t → bit_at n i ≡ 0)

pub upward_first : (n t : ℕ) → IsLowest n t → bit_of (18446744073709551615 * 2 ^ t % 18446744073709551616) 0 ≡ bit_of n 0
upward_first n zero is = all_above 0 0 (omega arith) (omega arith) ∙ sym (ap (λ m. eqb m 1) is.0)
upward_first n (suc t) is = none_below (suc t) 0 (omega arith) (omega arith) ∙ sym (ap (λ m. eqb m 1) (is.1 0 (omega arith)))

pub upward_next : (n t k : ℕ) → IsLowest n t → k + 1 < 64 → bit_of (18446744073709551615 * 2 ^ t % 18446744073709551616) (k + 1) ≡ (bit_of (18446744073709551615 * 2 ^ t % 18446744073709551616) k || bit_of n (k + 1))
upward_next n t k is low = ⊎_elim before behind (cases_lt k t)
  where
    goes : ℕ → Bool
    goes j = bit_of (18446744073709551615 * 2 ^ t % 18446744073709551616) j

    at_last : t ≡ k + 1 → goes (k + 1) ≡ bit_of n (k + 1)
    at_last e = all_above t (k + 1) low (omega arith) ∙ sym (ap (λ m. eqb m 1) (ap (bit_at n) (sym e) ∙ is.0))

    later : k < t → goes (k + 1) ≡ bit_of n (k + 1)
    later lt = ⊎_elim (λ less. none_below t (k + 1) low less ∙ sym (ap (λ m. eqb m 1) (is.1 (k + 1) less))) (λ ge. at_last (omega arith)) (cases_lt (k + 1) t)

    before : k < t → goes (k + 1) ≡ (goes k || bit_of n (k + 1))
    before lt = later lt ∙ sym (ap (λ b. b || bit_of n (k + 1)) (none_below t k (omega arith) lt))

    behind : t ≤ k → goes (k + 1) ≡ (goes k || bit_of n (k + 1))
    behind ge = all_above t (k + 1) low (omega arith) ∙ sym (ap (λ b. b || bit_of n (k + 1)) (all_above t k (omega arith) ge))

-- bits of both
pub both_bits : (a b i : ℕ) → bit_of (bit_and a b) i ≡ (bit_of a i && bit_of b i)
both_bits a b i = ap (λ n. eqb n 1) (bit_at_and a b i) ∙ lesser (bit_at a i) (bit_at b i) (bit_at-lt a i) (bit_at-lt b i)
  where
    lesser : (x y : ℕ) → x < 2 → y < 2 → eqb (min x y) 1 ≡ (eqb x 1 && eqb y 1)
    lesser x y few less = grind (arith, nat_tests)
