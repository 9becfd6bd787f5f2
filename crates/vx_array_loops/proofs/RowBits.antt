-- Rows of bits.
use Rattle.std.proofs.Common.{◌≡◌, ℕ, ◌+◌, ◌/◌, ◌%◌, ◌^◌, ◌<◌, eqb, min, max, List, length, get_or, refl, sym, ap, ◌∙◌, arith, Bool, false, ◌&&◌, ◌||◌, not, ⊎_elim}
use Rattle.std.proofs.Math.ListN.{replicate, get_or-eq_default}
use Rattle.std.specs.Int.{bit_at}
use Rattle.std.specs.Int.RustNames.{bit_and, bit_or, bit_xor}
use Rattle.std.specs.List.{range_with_len}
use Rattle.std.specs.Simd.Lanes.{zip2}
use Rattle.std.proofs.lemmas.Bool.{cases_lt}
use Rattle.std.proofs.lemmas.Bool.Decides.{nat_tests}
use Rattle.std.proofs.lemmas.Simd.{zip2-map, length-replicate, get_or-replicate, splat_is_map}
use Rattle.std.proofs.lemmas.List.FromFn.{length-range_with_len, length-map-range_with_len, get_or-map-range_with_len, fill_by_all}
use Rattle.std.proofs.lemmas.Nat.Bits.{bit_at-lt, bit_at_and, bit_at_or, bit_at_xor, bit_at_ones, bit_at-zero, shr_and_one}
use Rattle.vx_array_loops.specs.Logic.{and_valid, or_valid}
use Rattle.vx_array_loops.specs.WordBits.{bit_of, bit, first_bits, each_row, words_for}

pub length-first_bits : (n : ℕ) (words : List ℕ) → length (first_bits n words) ≡ n
length-first_bits n words = length-map-range_with_len (bit words) 0 n

pub get_or-first_bits : (n : ℕ) (words : List ℕ) (k : ℕ) → k < n → get_or (first_bits n words) k false ≡ bit words k
get_or-first_bits n words k lt = get_or-map-range_with_len (bit words) 0 n k k false lt (omega arith)

-- functions that agree at the rows
pub same_rows : {A : Type 0} (d : A) (n : ℕ) (f g : ℕ → A) → ((k : ℕ) → k < n → f k ≡ g k) → each_row n f ≡ each_row n g
same_rows d n f g same = fill_by_all g (each_row n f) n d (length-map-range_with_len f 0 n) (λ k lt. get_or-map-range_with_len f 0 n k k d lt (omega arith) ∙ same k lt)

-- the words of two that are equally many
pub same_len : (n m : ℕ) (us vs : List ℕ) (xs ys : List Bool) → first_bits n us ≡ xs → first_bits m vs ≡ ys → length ys ≡ length xs → m ≡ n
same_len n m us vs xs ys left right long = sym (length-first_bits m vs) ∙ ap length right ∙ long ∙ sym (ap length left) ∙ length-first_bits n us

-- rows of words that are combined
pub combined : (g : Bool → Bool → Bool) (post : ℕ → ℕ → ℕ → Type 0) (n m : ℕ) (us vs new : List ℕ) (xs ys : List Bool) → first_bits n us ≡ xs → first_bits m vs ≡ ys → length ys ≡ length xs → length us ≡ words_for n →
    ((j w : ℕ) → j < length us → w ≡ get_or new j 0 → post (get_or us j 0) (get_or vs j 0) w) → ((a b w i : ℕ) → post a b w → i < 64 → bit_of w i ≡ g (bit_of a i) (bit_of b i)) → first_bits n new ≡ zip2 g xs ys
combined g post n m us vs new xs ys left right long counted called gives =
    same_rows false n (bit new) (λ k. g (bit us k) (bit vs k))
    (λ k lt. let within : k / 64 < length us = omega arith in gives (get_or us (k / 64) 0) (get_or vs (k / 64) 0) (get_or new (k / 64) 0) (k % 64) (called (k / 64) (get_or new (k / 64) 0) within refl) (omega arith))
    ∙ sym (zip2-map g (bit us) (bit vs) (range_with_len 0 n)) ∙ ap (λ l. zip2 g l (first_bits n vs)) left ∙ ap (λ q. zip2 g xs (first_bits q vs)) (sym (same_len n m us vs xs ys left right long)) ∙ ap (zip2 g xs) right

bit_of_and : (a b i : ℕ) → bit_of (bit_and a b) i ≡ (bit_of a i && bit_of b i)
bit_of_and a b i = ap (λ n. eqb n 1) (bit_at_and a b i) ∙ lesser (bit_at a i) (bit_at b i) (bit_at-lt a i) (bit_at-lt b i)
  where
    lesser : (x y : ℕ) → x < 2 → y < 2 → eqb (min x y) 1 ≡ (eqb x 1 && eqb y 1)
    lesser x y few less = grind (arith, nat_tests)

bit_of_or : (a b i : ℕ) → bit_of (bit_or a b) i ≡ (bit_of a i || bit_of b i)
bit_of_or a b i = ap (λ n. eqb n 1) (bit_at_or a b i) ∙ greater (bit_at a i) (bit_at b i) (bit_at-lt a i) (bit_at-lt b i)
  where
    greater : (x y : ℕ) → x < 2 → y < 2 → eqb (max x y) 1 ≡ (eqb x 1 || eqb y 1)
    greater x y few less = grind (arith, nat_tests)

bit_of_not : (a i : ℕ) → i < 64 → bit_of (bit_xor a 18446744073709551615) i ≡ not (bit_of a i)
bit_of_not a i low = ap (λ n. eqb n 1) (bit_at_xor a 18446744073709551615 i ∙ ap (λ n. (bit_at a i + n) % 2) (bit_at_ones 64 i low)) ∙ other (bit_at a i) (bit_at-lt a i)
  where
    other : (x : ℕ) → x < 2 → eqb ((x + 1) % 2) 1 ≡ not (eqb x 1)
    other x few = grind (arith, nat_tests)

-- the four ways to combine words
pub and_bits : (a b w i : ℕ) → w ≡ bit_and a b → bit_of w i ≡ (bit_of a i && bit_of b i)
and_bits a b w i is = ap (λ n. bit_of n i) is ∙ bit_of_and a b i

pub or_bits : (a b w i : ℕ) → w ≡ bit_or a b → bit_of w i ≡ (bit_of a i || bit_of b i)
or_bits a b w i is = ap (λ n. bit_of n i) is ∙ bit_of_or a b i

pub and_not_bits : (a b w i : ℕ) → w ≡ bit_and a (bit_xor b 18446744073709551615) → i < 64 → bit_of w i ≡ (bit_of a i && not (bit_of b i))
and_not_bits a b w i is low = ap (λ n. bit_of n i) is ∙ bit_of_and a (bit_xor b 18446744073709551615) i ∙ ap (λ x. bit_of a i && x) (bit_of_not b i low)

pub or_not_bits : (a b w i : ℕ) → w ≡ bit_or a (bit_xor b 18446744073709551615) → i < 64 → bit_of w i ≡ (bit_of a i || not (bit_of b i))
or_not_bits a b w i is low = ap (λ n. bit_of n i) is ∙ bit_of_or a (bit_xor b 18446744073709551615) i ∙ ap (λ x. bit_of a i || x) (bit_of_not b i low)

-- bits of words that are zero
pub no_bits : (n m : ℕ) (words : List ℕ) → words ≡ replicate {A = ℕ} m 0 → first_bits n words ≡ replicate n false
no_bits n m words is = same_rows false n (bit words) (λ _. false) (λ k lt. ap (λ w. bit_of w (k % 64)) (ap (λ l. get_or l (k / 64) 0) is ∙ all_zero (k / 64)) ∙ ap (λ x. eqb x 1) (bit_at-zero (k % 64))) ∙ sym (splat_is_map (range_with_len 0 n) n false (length-range_with_len 0 n))
  where
    all_zero : (q : ℕ) → get_or (replicate {A = ℕ} m 0) q 0 ≡ 0
    all_zero q = ⊎_elim (λ lt. get_or-replicate m q 0 0 lt) (λ past. get_or-eq_default (replicate {A = ℕ} m 0) 0 (omega (arith, length-replicate {A = ℕ} m 0))) (cases_lt q m)

-- a bit that is read
pub bit_read : (n : ℕ) (words : List ℕ) (xs : List Bool) (k w : ℕ) → first_bits n words ≡ xs → k < length xs → w ≡ get_or words (k / 64) 0 → eqb (bit_and (w / 2 ^ (k % 64)) 1) 1 ≡ get_or xs k false
bit_read n words xs k w view lt is =
    let within : k < n = omega (arith, ap length view, length-first_bits n words) in
    ap (λ x. eqb x 1) (shr_and_one w (k % 64)) ∙ ap (λ v. bit_of v (k % 64)) is ∙ sym (get_or-first_bits n words k within) ∙ ap (λ l. get_or l k false) view

-- rows of bits that are seen
pub seen : (n : ℕ) (words : List ℕ) (xs : List Bool) → first_bits n words ≡ xs → (k : ℕ) → k < n → bit words k ≡ get_or xs k false
seen n words xs view k lt = sym (get_or-first_bits n words k lt) ∙ ap (λ l. get_or l k false) view

-- rows of words that are combined, four side by side
pub combined_four : (g : Bool → Bool → Bool → Bool → Bool) (post : ℕ → ℕ → ℕ → ℕ → ℕ → Type 0) (n : ℕ) (us vs ts ss new : List ℕ) (xs ys zs os : List Bool) → length us ≡ words_for n →
    ((k : ℕ) → k < n → bit us k ≡ get_or xs k false) → ((k : ℕ) → k < n → bit vs k ≡ get_or ys k false) → ((k : ℕ) → k < n → bit ts k ≡ get_or zs k false) → ((k : ℕ) → k < n → bit ss k ≡ get_or os k false) →
    ((j w : ℕ) → j < length us → w ≡ get_or new j 0 → post (get_or us j 0) (get_or vs j 0) (get_or ts j 0) (get_or ss j 0) w) →
    ((p q r s w i : ℕ) → post p q r s w → i < 64 → bit_of w i ≡ g (bit_of p i) (bit_of q i) (bit_of r i) (bit_of s i)) →
    first_bits n new ≡ each_row n (λ k. g (get_or xs k false) (get_or ys k false) (get_or zs k false) (get_or os k false))
combined_four g post n us vs ts ss new xs ys zs os counted first second third fourth called gives =
    same_rows false n (bit new) (λ k. g (get_or xs k false) (get_or ys k false) (get_or zs k false) (get_or os k false))
    (λ k lt. let within : k / 64 < length us = omega arith in
    gives (get_or us (k / 64) 0) (get_or vs (k / 64) 0) (get_or ts (k / 64) 0) (get_or ss (k / 64) 0) (get_or new (k / 64) 0) (k % 64) (called (k / 64) (get_or new (k / 64) 0) within refl) (omega arith)
    ∙ ap (λ x. g x (bit vs k) (bit ts k) (bit ss k)) (first k lt) ∙ ap (λ x. g (get_or xs k false) x (bit ts k) (bit ss k)) (second k lt)
    ∙ ap (λ x. g (get_or xs k false) (get_or ys k false) x (bit ss k)) (third k lt) ∙ ap (λ x. g (get_or xs k false) (get_or ys k false) (get_or zs k false) x) (fourth k lt))

or_is : (p q i : ℕ) (x y : Bool) → bit_of p i ≡ x → bit_of q i ≡ y → bit_of (bit_or p q) i ≡ (x || y)
or_is p q i x y left right = bit_of_or p q i ∙ ap (λ u. u || bit_of q i) left ∙ ap (λ u. x || u) right

and_is : (p q i : ℕ) (x y : Bool) → bit_of p i ≡ x → bit_of q i ≡ y → bit_of (bit_and p q) i ≡ (x && y)
and_is p q i x y left right = bit_of_and p q i ∙ ap (λ u. u && bit_of q i) left ∙ ap (λ u. x && u) right

pub and_valid_bits : (v a w b n i : ℕ) → n ≡ bit_or (bit_or (bit_and v w) (bit_and v (bit_xor a 18446744073709551615))) (bit_and w (bit_xor b 18446744073709551615)) → i < 64 → bit_of n i ≡ and_valid (bit_of v i) (bit_of a i) (bit_of w i) (bit_of b i)
and_valid_bits v a w b n i is low =
    ap (λ m. bit_of m i) is
    ∙ or_is (bit_or (bit_and v w) (bit_and v (bit_xor a 18446744073709551615))) (bit_and w (bit_xor b 18446744073709551615)) i ((bit_of v i && bit_of w i) || (bit_of v i && not (bit_of a i))) (bit_of w i && not (bit_of b i))
    (or_is (bit_and v w) (bit_and v (bit_xor a 18446744073709551615)) i (bit_of v i && bit_of w i) (bit_of v i && not (bit_of a i)) (bit_of_and v w i) (and_is v (bit_xor a 18446744073709551615) i (bit_of v i) (not (bit_of a i)) refl (bit_of_not a i low)))
    (and_is w (bit_xor b 18446744073709551615) i (bit_of w i) (not (bit_of b i)) refl (bit_of_not b i low))

pub or_valid_bits : (v a w b n i : ℕ) → n ≡ bit_or (bit_or (bit_and v w) (bit_and v a)) (bit_and w b) → bit_of n i ≡ or_valid (bit_of v i) (bit_of a i) (bit_of w i) (bit_of b i)
or_valid_bits v a w b n i is =
    ap (λ m. bit_of m i) is
    ∙ or_is (bit_or (bit_and v w) (bit_and v a)) (bit_and w b) i ((bit_of v i && bit_of w i) || (bit_of v i && bit_of a i)) (bit_of w i && bit_of b i)
    (or_is (bit_and v w) (bit_and v a) i (bit_of v i && bit_of w i) (bit_of v i && bit_of a i) (bit_of_and v w i) (bit_of_and v a i)) (bit_of_and w b i)
