-- Bits of words.
use Rattle.std.proofs.Common.{◌≡◌, ◌≢◌, ℕ, ◌+◌, ◌*◌, ◌/◌, ◌%◌, ◌^◌, ◌-◌, ◌<◌, ◌≤◌, ◌==◌, eqb, List, map, length, get_or, refl, sym, ap, subst, ◌∙◌, arith, Bool, true, false, not, cond, max, suc, zero, get_or-set_other, get_or-set_same, below_more, ⊎_elim}
use Rattle.std.proofs.Math.ListN.{set}
use Rattle.std.specs.Int.{from_bool}
use Rattle.std.proofs.lemmas.Bool.{cases_lt}
use Rattle.std.specs.Simd.Lanes.{mask_l}
use Rattle.std.proofs.lemmas.Simd.{bit_mask_l}
use Rattle.std.proofs.lemmas.List.{get_or-map}
use Rattle.std.specs.Int.{bit_at}
use Rattle.std.specs.Int.RustNames.{bit_and, bit_or}
use Rattle.std.proofs.lemmas.Nat.{pow_pos, pow-add}
use Rattle.std.proofs.Math.Nat.{div-div-eq-div-mul, div-add-mod, mul_comm, mod-eq_of_lt}
use Rattle.std.proofs.Math.Pow.{pow-lt}
use Rattle.std.proofs.lemmas.Bool.Decides.{nat_tests}
use Rattle.std.proofs.lemmas.Nat.Bits.{bit_at-lt, bit_at-zero, bit_at_above, bit_at_cat_low, bit_at_cat_high, bit_at_or, and_pow}
use Rattle.vx_array_loops.specs.WordBits.{bit_of, bit}

one_of : (b : Bool) → eqb (cond b 1 0) 1 ≡ b
one_of true = refl
one_of false = refl

-- a bit of a word that is made of 64 bytes
pub bit_of_block : (block : List ℕ) (i : ℕ) → i < length block → bit_of (mask_l (map (λ b. b == 1) block)) i ≡ (get_or block i 0 == 1)
bit_of_block block i lt =
    ap (λ n. eqb n 1) (bit_mask_l (map (λ b. b == 1) block) i) ∙ one_of (get_or (map (λ b. b == 1) block) i false) ∙ get_or-map (λ b. b == 1) block i 0 false lt

-- one more byte that is written, of bytes that are one where a truth value is
pub more_bytes : (P : ℕ → Bool → Type 0) (i : ℕ) (block : List ℕ) (n : ℕ) (b : Bool) → i < length block → ((k : ℕ) (x : Bool) → k < i → x ≡ (get_or block k 0 == 1) → P k x) → n ≡ from_bool b → P i b →
    (k : ℕ) (x : Bool) → k < i + 1 → x ≡ (get_or (set block i n) k 0 == 1) → P k x
more_bytes P i block n b within before byte here k x lt is =
    below_more (λ k. (x : Bool) → x ≡ (get_or (set block i n) k 0 == 1) → P k x) i
    (λ k h x is. let apart : k ≢ i = omega arith in before k x h (is ∙ ap (λ n. n == 1) (get_or-set_other block i k n 0 apart)))
    (λ x is. subst (P i) (sym (is ∙ ap (λ n. n == 1) (get_or-set_same block i n 0 within ∙ byte) ∙ one_byte b)) here) k lt x is
  where
    one_byte : (b : Bool) → (from_bool b == 1) ≡ b
    one_byte true = refl
    one_byte false = refl

-- the first bits of one more word that is written
pub more_words : (P : ℕ → Bool → Type 0) (j rest : ℕ) (words : List ℕ) (word : ℕ) → j < length words → rest ≤ 64 → ((k : ℕ) (b : Bool) → k < 64 * j → b ≡ bit words k → P k b) →
    ((i : ℕ) (b : Bool) → i < rest → b ≡ bit_of word i → P (64 * j + i) b) → (k : ℕ) (b : Bool) → k < 64 * j + rest → b ≡ bit (set words j word) k → P k b
more_words P j rest words word within few before here k b lt is = ⊎_elim below above (cases_lt k (64 * j))
  where
    below : k < 64 * j → P k b
    below h = let apart : k / 64 ≢ j = omega arith in before k b h (is ∙ ap (λ w. bit_of w (k % 64)) (get_or-set_other words j (k / 64) word 0 apart))

    above : 64 * j ≤ k → P k b
    above h =
        let at : k / 64 ≡ j = omega arith in
        let place : 64 * j + k % 64 ≡ k = omega arith in
        let low : k % 64 < rest = omega arith in
        subst (λ n. P n b) place (here (k % 64) b low (is ∙ ap (λ w. bit_of w (k % 64)) (ap (λ q. get_or (set words j word) q 0) at ∙ get_or-set_same words j word 0 within)))

-- ---- bits of bytes of words

pub bit_behind : (n s i : ℕ) → bit_at (n / 2 ^ s) i ≡ bit_at n (s + i)
bit_behind n s i = ap (λ m. m % 2) (div-div-eq-div-mul n (2 ^ s) (2 ^ i) ∙ ap (λ p. n / p) (sym (pow-add 2 s i)))

bit_of_low : (n k i : ℕ) → i < k → bit_at (n % 2 ^ k) i ≡ bit_at n i
bit_of_low n k i low = sym (ap (λ m. bit_at m i) whole ∙ bit_at_cat_low (n / 2 ^ k) k (n % 2 ^ k) i low)
  where
    whole : n ≡ n / 2 ^ k * 2 ^ k + n % 2 ^ k
    whole = sym (div-add-mod n (2 ^ k)) ∙ ap (λ m. m + n % 2 ^ k) (mul_comm (2 ^ k) (n / 2 ^ k))

tested : (bit power : ℕ) → bit < 2 → 0 < power → not (eqb (bit * power) 0) ≡ eqb bit 1
tested zero power few some = grind (arith, nat_tests)
tested (suc zero) power few some = grind (arith, nat_tests)
tested (suc (suc b)) power few some = absurd (omega arith)

pub power_in_byte : (m : ℕ) → m < 8 → 1 * 2 ^ m % 256 ≡ 2 ^ m
power_in_byte m low =
    let below : 1 * 2 ^ m < 256 = omega (arith, pow-lt low) in
    mod-eq_of_lt below ∙ omega arith

-- a bit that is looked up in its byte
pub bit_in_byte : (word i byte power : ℕ) → i < 64 → byte ≡ word / 2 ^ (8 * (i / 8)) % 256 → power ≡ 2 ^ (i % 8) → not (eqb (bit_and byte power) 0) ≡ bit_of word i
bit_in_byte word i byte power low is power_is =
    let place : 8 * (i / 8) + i % 8 ≡ i = omega arith in
    ap (λ n. not (eqb n 0)) (ap (bit_and byte) power_is ∙ and_pow byte (i % 8)) ∙ tested (bit_at byte (i % 8)) (2 ^ (i % 8)) (bit_at-lt byte (i % 8)) (pow_pos (i % 8))
    ∙ ap (λ n. eqb n 1) (ap (λ b. bit_at b (i % 8)) is ∙ bit_of_low (word / 2 ^ (8 * (i / 8))) 8 (i % 8) (omega arith) ∙ bit_behind word (8 * (i / 8)) (i % 8) ∙ ap (bit_at word) place)

-- ---- 64 bits that lie in two words

shifted_down : (n s i : ℕ) → n < 2 ^ 64 → 64 ≤ s + i → bit_at (n / 2 ^ s) i ≡ 0
shifted_down n s i few high = bit_behind n s i ∙ bit_at_above n 64 (s + i) few high

shifted_up : (n s i : ℕ) → i < 64 → s ≤ i → bit_at (n * 2 ^ s % 2 ^ 64) i ≡ bit_at n (i - s)
shifted_up n s i low high = bit_of_low (n * 2 ^ s) 64 i low ∙ ap (λ m. bit_at m i) (sym (add_zero (n * 2 ^ s))) ∙ bit_at_cat_high n s 0 i (pow_pos s) high
  where
    add_zero : (m : ℕ) → m + 0 ≡ m
    add_zero m = omega arith

shifted_off : (n s i : ℕ) → i < 64 → i < s → bit_at (n * 2 ^ s % 2 ^ 64) i ≡ 0
shifted_off n s i low below = bit_of_low (n * 2 ^ s) 64 i low ∙ ap (λ m. bit_at m i) (sym (add_zero (n * 2 ^ s))) ∙ bit_at_cat_low n s 0 i below ∙ bit_at-zero i
  where
    add_zero : (m : ℕ) → m + 0 ≡ m
    add_zero m = omega arith

max_zero : (m : ℕ) → max m 0 ≡ m
max_zero m = omega arith

zero_max : (m : ℕ) → max 0 m ≡ m
zero_max m = omega arith

-- the bits of two words that are next to each other
pub split_window : (words : List ℕ) (from w n i : ℕ) → i < 64 → 0 < from % 64 → w < 2 ^ 64 → w ≡ get_or words (from / 64) 0 → n ≡ get_or words (from / 64 + 1) 0 →
    bit_of (bit_or (w / 2 ^ (from % 64)) (n * 2 ^ (64 - from % 64) % 18446744073709551616)) i ≡ bit words (from + i)
split_window words from w n i few some fits is next = ap (λ m. eqb m 1) (bit_at_or (w / 2 ^ (from % 64)) (n * 2 ^ (64 - from % 64) % 2 ^ 64) i ∙ ⊎_elim first second (cases_lt (from % 64 + i) 64))
  where
    wanted : ℕ
    wanted = bit_at (get_or words ((from + i) / 64) 0) ((from + i) % 64)

    at : (q m j : ℕ) → m ≡ get_or words q 0 → (from + i) / 64 ≡ q → (from + i) % 64 ≡ j → bit_at m j ≡ wanted
    at q m j here number place = ap (λ v. bit_at v j) (here ∙ ap (λ q. get_or words q 0) (sym number)) ∙ ap (bit_at (get_or words ((from + i) / 64) 0)) (sym place)

    first : from % 64 + i < 64 → max (bit_at (w / 2 ^ (from % 64)) i) (bit_at (n * 2 ^ (64 - from % 64) % 2 ^ 64) i) ≡ wanted
    first lt =
        let none = shifted_off n (64 - from % 64) i few (omega arith) in
        let here = bit_behind w (from % 64) i ∙ at (from / 64) w (from % 64 + i) is (omega arith) (omega arith) in
        ap (max (bit_at (w / 2 ^ (from % 64)) i)) none ∙ max_zero (bit_at (w / 2 ^ (from % 64)) i) ∙ here

    second : 64 ≤ from % 64 + i → max (bit_at (w / 2 ^ (from % 64)) i) (bit_at (n * 2 ^ (64 - from % 64) % 2 ^ 64) i) ≡ wanted
    second ge =
        let none = shifted_down w (from % 64) i fits ge in
        let here = shifted_up n (64 - from % 64) i few (omega arith) ∙ at (from / 64 + 1) n (i - (64 - from % 64)) next (omega arith) (omega arith) in
        ap (λ m. max m (bit_at (n * 2 ^ (64 - from % 64) % 2 ^ 64) i)) none ∙ zero_max (bit_at (n * 2 ^ (64 - from % 64) % 2 ^ 64) i) ∙ here
