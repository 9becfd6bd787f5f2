-- CASE and zip by masks.
use Rattle.std.proofs.Common.{◌≡◌, ℕ, ◌+◌, ◌-◌, ◌*◌, ◌<◌, ◌≤◌, List, [], ◌∷◌, zero, suc, length, length-drop, get_or, take, drop, drop-cons, refl, sym, ap, subst, ◌∙◌, arith, Bool, false}
use Rattle.std.specs.Prelude.{if◌then◌else◌}
use Rattle.std.proofs.Math.ListN.{replicate}
use Rattle.std.proofs.Math.Seq.{take-length}
use Rattle.std.specs.List.{drop-map}
use Rattle.std.proofs.lemmas.List.{get_or-map, get_or-replicate, length-replicate, length-map}
use Rattle.std.proofs.lemmas.List.FromFn.{length-map-range_with_len, get_or-map-range_with_len}
use Rattle.vx_value.specs.StructColumns.{row_at}
use Rattle.vx_value.specs.Types.{Datum, null}
use Rattle.vx_fn.specs.Values.{first_true, is_true}
use Rattle.vx_array.specs.declared.lanes.Lanes.{Lanes}
use Rattle.vx_array.specs.Rows.{lanes_each, lanes_rows}
use Rattle.vx_array_kernels.specs.Choices.{blended, IsMask, chosen_rows, case_rows, EachLong}
use Rattle.vx_array_kernels.proofs.Told.{rows_as}

-- ---- columns of equally many rows

pub long_at : (n : ℕ) (cs : List (List Datum)) (k : ℕ) → EachLong n cs → k < length cs → length (get_or cs k []) ≡ n
long_at n [] k all lt = absurd (omega arith)
long_at n (c ∷ cs) zero all lt = all.0
long_at n (c ∷ cs) (suc k) all lt = long_at n cs k all.1 (omega arith)

pub long_behind : (n k : ℕ) (cs : List (List Datum)) → EachLong n cs → EachLong n (drop k cs)
long_behind n zero cs all = all
long_behind n (suc k) [] all = tt
long_behind n (suc k) (c ∷ cs) all = long_behind n k cs all.1

pub lanes_at : (ls : List Lanes) (k : ℕ) (l : Lanes) → k < length ls → l ≡ get_or ls k l → get_or (lanes_each ls) k [] ≡ lanes_rows l
lanes_at ls k l lt is = get_or-map lanes_rows ls k l [] lt ∙ ap lanes_rows (sym is)

pub lanes_long : (n : ℕ) (ls : List Lanes) (k : ℕ) (l : Lanes) → EachLong n (lanes_each ls) → k < length ls → l ≡ get_or ls k l → length (lanes_rows l) ≡ n
lanes_long n ls k l all lt is = ap length (sym (lanes_at ls k l lt is)) ∙ long_at n (lanes_each ls) k all (omega (arith, length-map ls lanes_rows))

-- the columns of those behind so many
pub each_behind : (k : ℕ) (ls : List Lanes) → lanes_each (take (length ls - k) (drop k ls)) ≡ drop k (lanes_each ls)
each_behind k ls = ap lanes_each (ap (λ m. take m (drop k ls)) (sym (length-drop k ls)) ∙ take-length (drop k ls)) ∙ sym (drop-map lanes_rows k ls)

pub long_left : (n k : ℕ) (ls : List Lanes) → EachLong n (lanes_each ls) → EachLong n (lanes_each (take (length ls - k) (drop k ls)))
long_left n k ls all = subst (EachLong n) (sym (each_behind k ls)) (long_behind n k (lanes_each ls) all)

-- ---- rows that are chosen

pub length-chosen_rows : (n : ℕ) (cs vs rows : List Datum) → length (chosen_rows n cs vs rows) ≡ n
length-chosen_rows n cs vs rows = length-map-range_with_len (λ k. if is_true (get_or cs k null) then get_or vs k null else get_or rows k null) 0 n

pub length-case_rows : (n : ℕ) (cs : List (List Datum)) → length (case_rows n cs) ≡ n
length-case_rows n cs = length-map-range_with_len (λ k. first_true (row_at k cs)) 0 n

-- by a mask, and by the rows that it is of
pub chosen_by : (n : ℕ) (mask : List Bool) (cs vs rows new : List Datum) → IsMask mask cs → length cs ≡ n → length rows ≡ n → new ≡ blended mask vs rows → new ≡ chosen_rows n cs vs rows
chosen_by n mask cs vs rows new told long many is =
    is ∙ rows_as n (λ k. if is_true (get_or cs k null) then get_or vs k null else get_or rows k null) (blended mask vs rows) (length-map-range_with_len pick 0 (length rows) ∙ many)
    (λ k lt. get_or-map-range_with_len pick 0 (length rows) k k null (omega (arith, many)) (omega arith) ∙ ap (λ b. if b then get_or vs k null else get_or rows k null) (told.1 k (omega (arith, long))))
  where
    pick : ℕ → Datum
    pick k = if get_or mask k false then get_or vs k null else get_or rows k null

-- ---- the branches of a CASE

-- one more branch before the others
pub branch : (n : ℕ) (cs : List (List Datum)) (i : ℕ) (rows new : List Datum) → i + 1 < length cs → rows ≡ case_rows n (drop (i + 2) cs) → new ≡ chosen_rows n (get_or cs i []) (get_or cs (i + 1) []) rows → new ≡ case_rows n (drop i cs)
branch n cs i rows new lt so_far is =
    is ∙ rows_as n (λ k. first_true (row_at k (drop i cs))) (chosen_rows n c v rows) (length-chosen_rows n c v rows)
    (λ k low. get_or-map-range_with_len (λ k. if is_true (get_or c k null) then get_or v k null else get_or rows k null) 0 n k k null low (omega arith)
    ∙ ap (λ d. if is_true (get_or c k null) then get_or v k null else d) (ap (λ l. get_or l k null) so_far ∙ get_or-map-range_with_len (λ k. first_true (row_at k (drop (i + 2) cs))) 0 n k k null low (omega arith))
    ∙ ap (λ l. first_true (row_at k l)) (sym split))
  where
    c : List Datum
    c = get_or cs i []

    v : List Datum
    v = get_or cs (i + 1) []

    next : suc i ≡ i + 1
    next = omega arith

    after : suc (i + 1) ≡ i + 2
    after = omega arith

    split : drop i cs ≡ c ∷ v ∷ drop (i + 2) cs
    split = drop-cons cs i [] (omega arith) ∙ ap (λ m. c ∷ drop m cs) next ∙ ap (λ l. c ∷ l) (drop-cons cs (i + 1) [] lt ∙ ap (λ m. v ∷ drop m cs) after)

-- before any branch was put
pub none_put : (n p : ℕ) (ls : List Lanes) (rows : List Datum) → rows ≡ case_rows n (lanes_each (take (length ls - 2 * p) (drop (2 * p) ls))) → rows ≡ case_rows n (drop (2 * (p - 0)) (lanes_each ls))
none_put n p ls rows is = is ∙ ap (case_rows n) (each_behind (2 * p) ls) ∙ ap (λ m. case_rows n (drop m (lanes_each ls))) same
  where
    same : 2 * p ≡ 2 * (p - 0)
    same = omega arith

-- the one before those that were put already, of so many pairs
pub branch_put : (n : ℕ) (ls : List Lanes) (c v : Lanes) (p j : ℕ) (rows new : List Datum) → 2 * p ≤ length ls → j < p → c ≡ get_or ls (2 * (p - 1 - j)) c → v ≡ get_or ls (2 * (p - 1 - j) + 1) v → rows ≡ case_rows n (drop (2 * (p - j)) (lanes_each ls)) →
    new ≡ chosen_rows n (lanes_rows c) (lanes_rows v) rows → new ≡ case_rows n (drop (2 * (p - (j + 1))) (lanes_each ls))
branch_put n ls c v p j rows new le lt condition value so_far is =
    branch n (lanes_each ls) i rows new (omega (arith, length-map ls lanes_rows, there)) (so_far ∙ ap (λ m. case_rows n (drop m (lanes_each ls))) last)
    (is ∙ ap (λ cs. chosen_rows n cs (lanes_rows v) rows) (sym (lanes_at ls i c (omega (arith, there)) condition)) ∙ ap (λ vs. chosen_rows n (get_or (lanes_each ls) i []) vs rows) (sym (lanes_at ls (i + 1) v there value)))
    ∙ ap (λ m. case_rows n (drop m (lanes_each ls))) next
  where
    i : ℕ
    i = 2 * (p - 1 - j)

    there : i + 1 < length ls
    there = omega arith

    last : 2 * (p - j) ≡ i + 2
    last = omega arith

    next : i ≡ 2 * (p - (j + 1))
    next = omega arith

-- behind all branches
pub one_left : (ls : List Lanes) (l : Lanes) → length ls ≤ 1 → 0 < length ls → l ≡ get_or ls 0 l → ls ≡ l ∷ []
one_left [] l le lt is = absurd (omega arith)
one_left (x ∷ []) l le lt is = ap (λ y. y ∷ []) (sym is)
one_left (x ∷ y ∷ rest) l le lt is = absurd (omega arith)

none_left : (ls : List Lanes) → length ls ≤ 0 → ls ≡ []
none_left [] le = refl
none_left (x ∷ ls) le = absurd (omega arith)

pub else_rows : (n : ℕ) (ls : List Lanes) (l : Lanes) (rows : List Datum) → length ls ≤ 1 → 0 < length ls → l ≡ get_or ls 0 l → length (lanes_rows l) ≡ n → rows ≡ lanes_rows l → rows ≡ case_rows n (lanes_each ls)
else_rows n ls l rows le lt at long is =
    is ∙ rows_as n (λ k. first_true (row_at k (lanes_rows l ∷ []))) (lanes_rows l) long (λ k low. refl) ∙ ap (λ x. case_rows n (lanes_each x)) (sym (one_left ls l le lt at))

pub no_else_rows : (n : ℕ) (ls : List Lanes) (rows : List Datum) → length ls ≤ 0 → rows ≡ replicate n null → rows ≡ case_rows n (lanes_each ls)
no_else_rows n ls rows le is =
    is ∙ rows_as n (λ k. first_true (row_at k [])) (replicate n null) (length-replicate n null) (λ k low. get_or-replicate n k null null low) ∙ ap (λ x. case_rows n (lanes_each x)) (sym (none_left ls le))
