-- The rows of a column that are true.
use Rattle.std.proofs.Common.{◌≡◌, ℕ, ◌+◌, zero, suc, List, [], ◌∷◌, ◌++◌, map, length, get_or, refl, sym, ap, ◌∙◌, arith, Bool, true, false, ◌&&◌, Result, Ok, Err, IfOk}
use Rattle.std.specs.List.{range_with_len}
use Rattle.std.proofs.lemmas.List.{map-append, length-map, ext_get_or}
use Rattle.std.proofs.lemmas.List.FromFn.{map-range_with_len_more, length-map-range_with_len, get_or-map-range_with_len}
use Rattle.vx_value.specs.Types.{Datum, null, bool}
use Rattle.vx_eval_masks.specs.Masks.{both, but}
use Rattle.vx_eval_masks.proofs.Pairs.{get_or-both, length-both}
use Rattle.vx_eval.proofs.Filled.{map_map}
use Rattle.vx_fn.specs.Values.{is_true}
use Rattle.vx_eval.specs.Columns.{each_row}

-- one more row, at the loop's index
pub true_pushed : (h : ℕ → Datum) (bits new : List Bool) (i : ℕ) (b : Bool) → bits ≡ map is_true (each_row i h) → new ≡ bits ++ b ∷ [] → b ≡ is_true (h i) → new ≡ map is_true (each_row (i + 1) h)
true_pushed h bits new i b so_far pushed here =
    pushed ∙ ap (λ l. l ++ b ∷ []) so_far ∙ ap (λ x. map is_true (each_row i h) ++ x ∷ []) here
    ∙ sym (map-append is_true (each_row i h) (h i ∷ [])) ∙ ap (map is_true) (sym (map-range_with_len_more h 0 i i (omega arith)))

-- ---- among the rows of another mask

pub true_at : (ds : List Datum) (k : ℕ) → get_or (map is_true ds) k false ≡ is_true (get_or ds k null)
true_at [] k = refl
true_at (d ∷ ds) zero = refl
true_at (d ∷ ds) (suc k) = true_at ds k

and_swapped : (a b : Bool) → (a && b) ≡ (b && a)
and_swapped true true = refl
and_swapped true false = refl
and_swapped false true = refl
and_swapped false false = refl

among_are : (ds : List Datum) (o : List Bool) (n : ℕ) → length ds ≡ length o → n ≡ length o → map is_true (each_row n (λ k. bool (get_or o k false && is_true (get_or ds k null)))) ≡ both (map is_true ds) o
among_are ds o n long many =
    let g = λ (k : ℕ). get_or o k false && is_true (get_or ds k null) in
    let first = map is_true ds in
    let size : length (map g (range_with_len 0 n)) ≡ n = length-map-range_with_len g 0 n in
    let other : length (both first o) ≡ length first = length-both first o (sym long ∙ sym (length-map ds is_true)) in
    map_map is_true (λ k. bool (g k)) (range_with_len 0 n)
    ∙ ext_get_or false (map g (range_with_len 0 n)) (both first o) (size ∙ many ∙ sym long ∙ sym (length-map ds is_true) ∙ sym other)
    (λ k lt.
    get_or-map-range_with_len g 0 n k k false (omega (arith, size)) (omega arith)
    ∙ and_swapped (get_or o k false) (is_true (get_or ds k null)) ∙ ap (λ b. b && get_or o k false) (sym (true_at ds k)) ∙ sym (get_or-both first o k))

pub true_among : {E : Type 0} (ds : List Datum) (o : List Bool) (n : ℕ) (r : Result (List Bool) E) → length ds ≡ length o → n ≡ length o →
    IfOk r (λ mask. mask ≡ map is_true (each_row n (λ k. bool (get_or o k false && is_true (get_or ds k null))))) → IfOk r (λ mask. mask ≡ both (map is_true ds) o)
true_among ds o n (Ok mask) long many is = is ∙ among_are ds o n long many
true_among ds o n (Err e) long many is = tt

-- what is claimed of rows that are open is open
both_again : (m o : List Bool) → both (both m o) o ≡ both m o
both_again [] o = refl
both_again (a ∷ m) [] = refl
both_again (true ∷ m) (true ∷ o) = ap (λ l. true ∷ l) (both_again m o)
both_again (true ∷ m) (false ∷ o) = ap (λ l. false ∷ l) (both_again m o)
both_again (false ∷ m) (b ∷ o) = ap (λ l. false ∷ l) (both_again m o)

but_both : (m o : List Bool) → but o (both m o) ≡ but o m
but_both [] [] = refl
but_both [] (b ∷ o) = refl
but_both (a ∷ m) [] = refl
but_both (true ∷ m) (true ∷ o) = ap (λ l. false ∷ l) (but_both m o)
but_both (true ∷ m) (false ∷ o) = ap (λ l. false ∷ l) (but_both m o)
but_both (false ∷ m) (b ∷ o) = ap (λ l. (b && true) ∷ l) (but_both m o)

pub claim_long : (ds : List Datum) (o mask : List Bool) → length ds ≡ length o → mask ≡ both (map is_true ds) o → length o ≡ length mask
claim_long ds o mask long is = sym (ap length is ∙ length-both (map is_true ds) o (sym long ∙ sym (length-map ds is_true)) ∙ length-map ds is_true ∙ long)

pub claim_own : (m o mask now : List Bool) → mask ≡ both m o → now ≡ both mask o → now ≡ both m o
claim_own m o mask now is claims = claims ∙ ap (λ l. both l o) is ∙ both_again m o

pub claim_left : (m o mask left : List Bool) → mask ≡ both m o → left ≡ but o mask → left ≡ but o m
claim_left m o mask left is leaves = leaves ∙ ap (but o) is ∙ but_both m o
