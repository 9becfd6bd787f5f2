-- Bytes of rows that are added to one buffer.
use Rattle.std.proofs.Common.{◌≡◌, ℕ, ◌+◌, ◌-◌, ◌<◌, ◌≤◌, zero, suc, List, [], ◌∷◌, ◌++◌, map, length, get_or, take, drop, refl, sym, ap, ◌∙◌, arith, length-append, length-drop, ⊎_elim}
use Rattle.std.specs.List.{range_with_len}
use Rattle.std.proofs.lemmas.Bool.{cases_lt}
use Rattle.std.proofs.lemmas.List.{get_or_append_left, get_or_at, get_or_past, drop-append-le, take-append-le, take_all, drop_at, length_push, take_more, map-append}
use Rattle.std.proofs.lemmas.List.FromFn.{map-range_with_len_more}
use Rattle.vx_array.specs.Kinds.{span_at}
use Rattle.vx_array_build.specs.Cuts.{AreCuts, cuts_in}

-- functions that are the same over a range
pub same_over : {A : Type 0} (f g : ℕ → A) (a n : ℕ) → ((k : ℕ) → a ≤ k → k < a + n → f k ≡ g k) → map f (range_with_len a n) ≡ map g (range_with_len a n)
same_over f g a zero h = refl
same_over f g a (suc n) h =
    ap (λ l. f a ∷ l) (same_over f g (a + 1) n (λ k low high. h k (omega arith) (omega arith))) ∙ ap (λ x. x ∷ map g (range_with_len (a + 1) n)) (h a (omega arith) (omega arith))

-- bytes that were there before more were added
cut_still : (a b : ℕ) (bytes row : List ℕ) → a ≤ length bytes → b ≤ length bytes → take (b - a) (drop a (bytes ++ row)) ≡ take (b - a) (drop a bytes)
cut_still a b bytes row low high = ap (take (b - a)) (drop-append-le a bytes row low) ∙ take-append-le (b - a) (drop a bytes) row (omega (arith, length-drop a bytes))

-- one more row
pub cut_more : (offsets bytes row new : List ℕ) (n : ℕ) → AreCuts offsets bytes → new ≡ bytes ++ row → n ≡ length new → cuts_in (offsets ++ n ∷ []) new ≡ cuts_in offsets bytes ++ row ∷ []
cut_more offsets bytes row new n cuts grown long =
    ap (λ m. map (span_at longer new) (range_with_len 0 m)) counted
    ∙ map-range_with_len_more (span_at longer new) 0 count count (omega arith)
    ∙ ap (λ l. l ++ span_at longer new count ∷ []) (same_over (span_at longer new) (span_at offsets bytes) 0 count still)
    ∙ ap (λ r. cuts_in offsets bytes ++ r ∷ []) last
  where
    count : ℕ
    count = length offsets - 1

    longer : List ℕ
    longer = offsets ++ n ∷ []

    some : 0 < length offsets
    some = cuts.some

    counted : length longer - 1 ≡ count + 1
    counted = omega (arith, length_push offsets n)

    kept : (k : ℕ) → k < length offsets → get_or longer k 0 ≡ get_or offsets k 0
    kept k lt = get_or_append_left offsets (n ∷ []) 0 k lt

    still : (k : ℕ) → 0 ≤ k → k < 0 + count → span_at longer new k ≡ span_at offsets bytes k
    still k low high =
        ap (λ a. take (get_or longer (k + 1) 0 - a) (drop a new)) (kept k (omega arith)) ∙ ap (λ b. take (b - get_or offsets k 0) (drop (get_or offsets k 0) new)) (kept (k + 1) (omega arith))
        ∙ ap (λ l. take (get_or offsets (k + 1) 0 - get_or offsets k 0) (drop (get_or offsets k 0) l)) grown
        ∙ cut_still (get_or offsets k 0) (get_or offsets (k + 1) 0) bytes row (cuts.within k) (cuts.within (k + 1))

    total : n ≡ length bytes + length row
    total = long ∙ ap length grown ∙ length-append bytes row

    last : span_at longer new count ≡ row
    last =
        ap (λ a. take (get_or longer (count + 1) 0 - a) (drop a new)) (kept count (omega arith) ∙ cuts.whole)
        ∙ ap (λ b. take (b - length bytes) (drop (length bytes) new)) (get_or_at offsets n [] 0 (count + 1) (omega arith))
        ∙ ap (λ l. take (n - length bytes) (drop (length bytes) l)) grown
        ∙ ap (take (n - length bytes)) (drop_at bytes row (length bytes) refl)
        ∙ take_all (n - length bytes) row (omega (arith, total))

-- the offsets with one more row
pub cuts_more : (offsets bytes row new : List ℕ) (n : ℕ) → AreCuts offsets bytes → new ≡ bytes ++ row → n ≡ length new → AreCuts (offsets ++ n ∷ []) new
cuts_more offsets bytes row new n cuts grown long = record { some = omega (arith, length_push offsets n); within = inside; whole = get_or_at offsets n [] 0 (length (offsets ++ n ∷ []) - 1) (omega (arith, length_push offsets n)) ∙ long }
  where
    larger : length bytes ≤ length new
    larger = omega (arith, ap length grown, length-append bytes row)

    beyond : (k : ℕ) → length offsets ≤ k → get_or (offsets ++ n ∷ []) k 0 ≤ length new
    beyond k past = ⊎_elim (λ lt. let here : get_or (offsets ++ n ∷ []) k 0 ≡ n = get_or_at offsets n [] 0 k (omega (arith, length_push offsets n)) in omega arith)
        (λ behind. let none : get_or (offsets ++ n ∷ []) k 0 ≡ 0 = get_or_past (offsets ++ n ∷ []) k 0 behind in omega arith) (cases_lt k (length (offsets ++ n ∷ [])))

    inside : (k : ℕ) → get_or (offsets ++ n ∷ []) k 0 ≤ length new
    inside k = ⊎_elim (λ lt. let kept : get_or (offsets ++ n ∷ []) k 0 ≡ get_or offsets k 0 = get_or_append_left offsets (n ∷ []) 0 k lt in omega (arith, cuts.within k, larger)) (beyond k) (cases_lt k (length offsets))

-- one more row out of a list
pub row_added : {A B C : Type 0} (g : B → C) (f : A → C) (spans new : List B) (row : B) (xs : List A) (i : ℕ) (x : A) → map g spans ≡ map f (take i xs) → new ≡ spans ++ row ∷ [] → i < length xs → x ≡ get_or xs i x → g row ≡ f x → map g new ≡ map f (take (i + 1) xs)
row_added g f spans new row xs i x so_far pushed lt is same =
    ap (map g) pushed ∙ map-append g spans (row ∷ []) ∙ ap (λ l. l ++ g row ∷ []) so_far ∙ ap (λ d. map f (take i xs) ++ d ∷ []) same
    ∙ sym (ap (map f) (take_more xs i x lt ∙ ap (λ y. take i xs ++ y ∷ []) (sym is)) ∙ map-append f (take i xs) (x ∷ []))
