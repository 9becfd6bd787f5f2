-- Parts of rows of bits, and rows one after another.
use Rattle.std.proofs.Common.{◌≡◌, ℕ, ◌+◌, ◌-◌, ◌*◌, ◌/◌, ◌%◌, ◌<◌, ◌≤◌, List, ◌++◌, length, length-append, length-take, length-drop, get_or, take, drop, sym, ap, ◌∙◌, arith, Bool, false, ⊎_elim}
use Rattle.std.proofs.lemmas.Bool.{cases_lt}
use Rattle.std.proofs.lemmas.List.{ext_get_or, get_or_append_left, get_or-append-add, get_or_default, get_or-take, get_or-drop}
use Rattle.vx_array_loops.specs.WordBits.{bit, bit_of, first_bits, words_for}
use Rattle.vx_array_loops.proofs.RowBits.{length-first_bits, get_or-first_bits}

-- words of the rows from one on
pub part_is : (xs : List Bool) (from len : ℕ) (words : List ℕ) → from + len ≤ length xs → length words ≡ words_for len →
    ((j w : ℕ) → j < words_for len → w ≡ get_or words j w → (i : ℕ) → i < 64 → from + 64 * j + i < length xs → bit_of w i ≡ get_or xs (from + 64 * j + i) false) → first_bits len words ≡ take len (drop from xs)
part_is xs from len words within long each =
    ext_get_or false (first_bits len words) (take len (drop from xs)) (length-first_bits len words ∙ sym (length-take len (drop from xs) ∙ omega (arith, within, length-drop from xs)))
    (λ k lt.
    let low : k < len = omega (arith, lt, length-first_bits len words) in
    let j : k / 64 < words_for len = omega (arith, low) in
    let there : k / 64 < length words = omega (arith, j, long) in
    let i : k % 64 < 64 = omega arith in
    let place : from + 64 * (k / 64) + k % 64 ≡ from + k = omega arith in
    let inside : from + 64 * (k / 64) + k % 64 < length xs = omega (arith, place, low, within) in
    get_or-first_bits len words k low ∙ each (k / 64) (get_or words (k / 64) 0) j (get_or_default words (k / 64) 0 (get_or words (k / 64) 0) there) (k % 64) i inside
    ∙ ap (λ n. get_or xs n false) place ∙ sym (get_or-take len (drop from xs) k false low ∙ get_or-drop from xs k false))

-- words of bits behind others that are whole
bit_behind : (us vs : List ℕ) (n k : ℕ) → n ≡ 64 * length us → bit (us ++ vs) (n + k) ≡ bit vs k
bit_behind us vs n k whole =
    let word : (n + k) / 64 ≡ length us + k / 64 = omega (arith, whole) in
    let place : (n + k) % 64 ≡ k % 64 = omega (arith, whole) in
    ap (λ w. bit_of (get_or (us ++ vs) w 0) ((n + k) % 64)) word ∙ ap (λ i. bit_of (get_or (us ++ vs) (length us + k / 64) 0) i) place ∙ ap (λ w. bit_of w (k % 64)) (get_or-append-add us vs (k / 64) 0)

bit_before : (us vs : List ℕ) (n k : ℕ) → n ≡ 64 * length us → k < n → bit (us ++ vs) k ≡ bit us k
bit_before us vs n k whole lt = ap (λ w. bit_of w (k % 64)) (get_or_append_left us vs 0 (k / 64) (omega (arith, whole, lt)))

words_added : (us vs : List ℕ) (n m : ℕ) → n ≡ 64 * length us → first_bits (n + m) (us ++ vs) ≡ first_bits n us ++ first_bits m vs
words_added us vs n m whole =
    ext_get_or false (first_bits (n + m) (us ++ vs)) (first_bits n us ++ first_bits m vs)
    (length-first_bits (n + m) (us ++ vs) ∙ sym (length-append (first_bits n us) (first_bits m vs) ∙ ap (λ a. a + length (first_bits m vs)) (length-first_bits n us) ∙ ap (λ b. n + b) (length-first_bits m vs)))
    (λ k lt. let low : k < n + m = omega (arith, length-first_bits (n + m) (us ++ vs)) in
    get_or-first_bits (n + m) (us ++ vs) k low ∙ ⊎_elim (λ here. before k here) (λ past. behind k past low) (cases_lt k n))
  where
    before : (k : ℕ) → k < n → bit (us ++ vs) k ≡ get_or (first_bits n us ++ first_bits m vs) k false
    before k lt = bit_before us vs n k whole lt ∙ sym (get_or_append_left (first_bits n us) (first_bits m vs) false k (omega (arith, length-first_bits n us)) ∙ get_or-first_bits n us k lt)

    behind : (k : ℕ) → n ≤ k → k < n + m → bit (us ++ vs) k ≡ get_or (first_bits n us ++ first_bits m vs) k false
    behind k past lt =
        let place : k ≡ n + (k - n) = omega arith in
        let there : k ≡ length (first_bits n us) + (k - n) = omega (arith, length-first_bits n us) in
        ap (bit (us ++ vs)) place ∙ bit_behind us vs n (k - n) whole
        ∙ sym (ap (λ i. get_or (first_bits n us ++ first_bits m vs) i false) there ∙ get_or-append-add (first_bits n us) (first_bits m vs) (k - n) false ∙ get_or-first_bits m vs (k - n) (omega arith))

-- rows behind others that fill whole words
pub appended : (us vs new : List ℕ) (n m sum : ℕ) (xs ys : List Bool) → first_bits n us ≡ xs → first_bits m vs ≡ ys → length us ≡ words_for n → length vs ≡ words_for m → new ≡ us ++ vs → (sum ≡ n + m) × (n % 64 ≡ 0) →
    (length new ≡ words_for sum) × (first_bits sum new ≡ xs ++ ys)
appended us vs new n m sum xs ys left right long more grown total = (
  ap length grown ∙ length-append us vs ∙ omega (arith, long, more, total.0, total.1),
  ap (λ k. first_bits k new) total.0 ∙ ap (first_bits (n + m)) grown ∙ words_added us vs n m (omega (arith, long, total.1)) ∙ ap (λ l. l ++ first_bits m vs) left ∙ ap (λ l. xs ++ l) right,
)
