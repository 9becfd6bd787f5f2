-- How many bits are one.
use Rattle.std.proofs.Common.{◌≡◌, ℕ, ◌+◌, ◌-◌, ◌*◌, ◌/◌, ◌%◌, ◌^◌, ◌<◌, ◌≤◌, eqb, min, List, ◌++◌, length, get_or, sym, ap, ◌∙◌, arith, Bool, false, cond, ⊎_elim}
use Rattle.std.specs.Int.{bit_at}
use Rattle.std.specs.Int.RustNames.{bit_and, count_ones}
use Rattle.std.specs.List.{range_with_len, count_by}
use Rattle.std.specs.Simd.Lanes.{mask_l}
use Rattle.std.proofs.lemmas.Bool.{cases_lt}
use Rattle.std.proofs.lemmas.Simd.{bit_mask_l, ones-mask_l}
use Rattle.std.proofs.lemmas.List.{ext_get_or, length-append, get_or_append_left, get_or-append_right}
use Rattle.std.proofs.lemmas.List.Folds.{fold-map}
use Rattle.std.proofs.lemmas.List.Sums.{sum_by-append, count_by-le-length}
use Rattle.std.proofs.lemmas.List.FromFn.{length-map-range_with_len, get_or-map-range_with_len}
use Rattle.std.proofs.lemmas.Nat.Bits.{bit_at-lt, bit_at_and, bit_at_ones, bit_at_ones_above, same_from_bits}
use Rattle.std.proofs.Math.ListN.{get_or-eq_default}
use Rattle.vx_array_loops.specs.WordBits.{bit_of, bit, first_bits, each_row, count_true}
use Rattle.vx_array_loops.proofs.RowBits.{length-first_bits, same_rows}

-- the first n rows, and c behind them
split_rows : (f : ℕ → Bool) (n c : ℕ) → each_row (n + c) f ≡ each_row n f ++ each_row c (λ i. f (n + i))
split_rows f n c =
    let front = each_row n f in
    let back = each_row c (λ i. f (n + i)) in
    let first : length front ≡ n = length-map-range_with_len f 0 n in
    let second : length back ≡ c = length-map-range_with_len (λ i. f (n + i)) 0 c in
    let all : length (each_row (n + c) f) ≡ n + c = length-map-range_with_len f 0 (n + c) in
    ext_get_or false (each_row (n + c) f) (front ++ back) (omega (arith, length-append front back))
    (λ k lt. let within : k < n + c = omega arith in
    get_or-map-range_with_len f 0 (n + c) k k false within (omega arith) ∙ ⊎_elim
    (λ low. sym (get_or_append_left front back false k (omega arith) ∙ get_or-map-range_with_len f 0 n k k false low (omega arith)))
    (λ high. let place : n + (k - n) ≡ k = omega arith in
    sym (get_or-append_right front back n k false first high ∙ get_or-map-range_with_len (λ i. f (n + i)) 0 c (k - n) (k - n) false (omega arith) (omega arith) ∙ ap f place))
    (cases_lt k n))

-- the bits of so many whole words, and the first ones of the next
pub count_more : (words : List ℕ) (j c w : ℕ) → c ≤ 64 → w ≡ get_or words j 0 → count_true (first_bits (64 * j + c) words) ≡ count_true (first_bits (64 * j) words) + count_by (bit_of w) (range_with_len 0 c)
count_more words j c w few is =
    ap count_true (split_rows (bit words) (64 * j) c) ∙ sum_by-append (λ b. cond b 1 0) (first_bits (64 * j) words) (each_row c (λ i. bit words (64 * j + i)))
    ∙ ap (λ l. count_true (first_bits (64 * j) words) + count_true l) (same_rows false c (λ i. bit words (64 * j + i)) (bit_of w) (λ i lt. here i lt))
    ∙ ap (λ n. count_true (first_bits (64 * j) words) + n) (fold-map (λ (a : ℕ) (b : Bool). a + cond b 1 0) (bit_of w) 0 (range_with_len 0 c))
  where
    here : (i : ℕ) → i < c → bit words (64 * j + i) ≡ bit_of w i
    here i lt =
        let at : (64 * j + i) / 64 ≡ j = omega arith in
        let place : (64 * j + i) % 64 ≡ i = omega arith in
        ap (λ q. bit_of (get_or words q 0) ((64 * j + i) % 64)) at ∙ ap (bit_of (get_or words j 0)) place ∙ ap (λ v. bit_of v i) (sym is)

-- no more are true than there are
pub count_le : (n : ℕ) (words : List ℕ) → count_true (first_bits n words) ≤ n
count_le n words = omega (arith, count_by-le-length (λ b. b) (first_bits n words), length-first_bits n words)

back_to_number : (x : ℕ) → x < 2 → cond (eqb x 1) 1 0 ≡ x
back_to_number x few = ⊎_elim (λ lt. let none : x ≡ 0 = omega arith in ap (λ n. cond (eqb n 1) 1 0) none ∙ sym none) (λ ge. let one : x ≡ 1 = omega arith in ap (λ n. cond (eqb n 1) 1 0) one ∙ sym one) (cases_lt x 1)

-- a word without its higher bits
masked_word : (w c : ℕ) → bit_and w (2 ^ c - 1) ≡ mask_l (each_row c (bit_of w))
masked_word w c = same_from_bits (bit_and w (2 ^ c - 1)) (mask_l (each_row c (bit_of w))) (λ i. bit_at_and w (2 ^ c - 1) i ∙ ⊎_elim (low i) (high i) (cases_lt i c))
  where
    low : (i : ℕ) → i < c → min (bit_at w i) (bit_at (2 ^ c - 1) i) ≡ bit_at (mask_l (each_row c (bit_of w))) i
    low i lt =
        ap (min (bit_at w i)) (bit_at_ones c i lt) ∙ omega (arith, bit_at-lt w i)
        ∙ sym (bit_mask_l (each_row c (bit_of w)) i ∙ ap (λ b. cond b 1 0) (get_or-map-range_with_len (bit_of w) 0 c i i false lt (omega arith)) ∙ back_to_number (bit_at w i) (bit_at-lt w i))

    high : (i : ℕ) → c ≤ i → min (bit_at w i) (bit_at (2 ^ c - 1) i) ≡ bit_at (mask_l (each_row c (bit_of w))) i
    high i ge =
        ap (min (bit_at w i)) (bit_at_ones_above c i ge) ∙ omega arith
        ∙ sym (bit_mask_l (each_row c (bit_of w)) i ∙ ap (λ b. cond b 1 0) (get_or-eq_default (each_row c (bit_of w)) false (omega (arith, length-map-range_with_len (bit_of w) 0 c))))

-- the ones of a word without its higher bits
pub ones_of_masked : (w c : ℕ) → count_ones (bit_and w (2 ^ c - 1)) ≡ count_by (bit_of w) (range_with_len 0 c)
ones_of_masked w c = ap count_ones (masked_word w c) ∙ ones-mask_l (bit_of w) (range_with_len 0 c)
