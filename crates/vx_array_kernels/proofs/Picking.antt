-- Rows of texts or of bytes that are taken from several columns.
use Rattle.std.proofs.Common.{◌≡◌, ℕ, ◌+◌, ◌<◌, List, [], ◌∷◌, ◌++◌, map, length, get_or, refl, sym, ap, ◌∙◌, arith, Bool, true, false, zero, suc, ⊎_elim}
use Rattle.std.specs.Prelude.{if◌then◌else◌}
use Rattle.std.proofs.Math.ListN.{replicate}
use Rattle.std.proofs.lemmas.Bool.{cases_lt}
use Rattle.std.proofs.Math.Seq.{get_or-append_seam}
use Rattle.std.proofs.lemmas.List.{length-map, map-append, get_or_append_left, get_or_default, get_or_past, length-replicate}
use Rattle.std.proofs.lemmas.List.FromFn.{length-map-range_with_len, get_or-map-range_with_len, map-range_with_len_more}
use Rattle.vx_value.specs.Types.{Datum, null}
use Rattle.vx_array.specs.declared.lanes.Lanes.{Lanes}
use Rattle.vx_array.specs.Rows.{lanes_each, lanes_rows}
use Rattle.vx_array.specs.Shown.{masked}
use Rattle.vx_array_loops.specs.WordBits.{each_row}
use Rattle.vx_array_kernels.specs.ByteRows.{picked_rows, shown_row}
use Rattle.vx_array_kernels.specs.Choices.{blended}
use Rattle.vx_array_kernels.proofs.Told.{rows_as}

-- what stands in a row of the column of that number
abbrev pub picked : List (List Datum) → List ℕ → ℕ → Datum
picked cs choices k = get_or (get_or cs (get_or choices k 0) []) k null

pub length-picked_rows : (cs : List (List Datum)) (choices : List ℕ) → length (picked_rows cs choices) ≡ length choices
length-picked_rows cs choices = length-map-range_with_len (picked cs choices) 0 (length choices)

at_picked : (cs : List (List Datum)) (choices : List ℕ) (k : ℕ) → k < length choices → get_or (picked_rows cs choices) k null ≡ picked cs choices k
at_picked cs choices k lt = get_or-map-range_with_len (picked cs choices) 0 (length choices) k k null lt (omega arith)

-- ---- one column in all rows

-- so many zeros
abbrev pub zeros : ℕ → List ℕ
zeros n = replicate n 0

zero_at : (n k : ℕ) → get_or (zeros n) k 0 ≡ zero
zero_at zero k = refl
zero_at (suc n) zero = refl
zero_at (suc n) (suc k) = zero_at n k

first_chosen : (n k : ℕ) (choices : List ℕ) → choices ≡ zeros n → get_or choices k 0 ≡ zero
first_chosen n k choices is = ap (λ l. get_or l k 0) is ∙ zero_at n k

pub one_picked : (n : ℕ) (ls : List Lanes) (rows : List Datum) (choices : List ℕ) → lanes_each ls ≡ rows ∷ [] → choices ≡ zeros n → length rows ≡ n → picked_rows (lanes_each ls) choices ≡ rows
one_picked n ls rows choices one are long =
    sym (rows_as (length choices) (picked (lanes_each ls) choices) rows (long ∙ sym (ap length are ∙ length-replicate n zero))
    (λ k lt. sym (ap (λ c. get_or (get_or (lanes_each ls) c []) k null) (first_chosen n k choices are) ∙ ap (λ cs. get_or (get_or cs 0 []) k null) one)))

-- ---- one more column

more : (ls : List Lanes) (l : Lanes) → lanes_each (ls ++ l ∷ []) ≡ lanes_each ls ++ lanes_rows l ∷ []
more ls l = map-append lanes_rows ls (l ∷ [])

before : (ls : List Lanes) (l : Lanes) (c : ℕ) → c < length ls → get_or (lanes_each (ls ++ l ∷ [])) c [] ≡ get_or (lanes_each ls) c []
before ls l c lt = ap (λ cs. get_or cs c []) (more ls l) ∙ get_or_append_left (lanes_each ls) (lanes_rows l ∷ []) [] c (omega (arith, length-map ls lanes_rows))

last : (ls : List Lanes) (l : Lanes) → get_or (lanes_each (ls ++ l ∷ [])) (length ls) [] ≡ lanes_rows l
last ls l = ap (λ n. get_or (lanes_each (ls ++ l ∷ [])) n []) (sym (length-map ls lanes_rows)) ∙ ap (λ cs. get_or cs (length (lanes_each ls)) []) (more ls l) ∙ get_or-append_seam (lanes_each ls) (lanes_rows l) [] []

-- rows that are taken from it where the mask is true
pub picked_put : (ls : List Lanes) (l : Lanes) (mask : List Bool) (olds news : List ℕ) (ys : List Datum) → picked_rows (lanes_each ls) olds ≡ ys → length news ≡ length olds → ((k : ℕ) → get_or olds k 0 < length ls) →
    ((i x : ℕ) → i < length olds → get_or mask i false ≡ true → x ≡ get_or news i x → x ≡ length ls) → ((i x : ℕ) → i < length olds → get_or mask i false ≡ false → x ≡ get_or news i x → x ≡ get_or olds i x) →
    picked_rows (lanes_each (ls ++ l ∷ [])) news ≡ blended mask (lanes_rows l) ys
picked_put ls l mask olds news ys view same within on off =
    rows_as (length ys) pick (picked_rows (lanes_each (ls ++ l ∷ [])) news) (length-picked_rows (lanes_each (ls ++ l ∷ [])) news ∙ wide)
    (λ k lt. at_picked (lanes_each (ls ++ l ∷ [])) news k (omega (arith, wide)) ∙ go k (omega (arith, wide, same)) (get_or mask k false) refl)
  where
    pick : ℕ → Datum
    pick k = if get_or mask k false then get_or (lanes_rows l) k null else get_or ys k null

    wide : length news ≡ length ys
    wide = same ∙ sym (length-picked_rows (lanes_each ls) olds) ∙ ap length view

    own : (k : ℕ) → k < length olds → get_or news k 0 ≡ get_or news k (get_or news k 0)
    own k lt = get_or_default news k 0 (get_or news k 0) (omega (arith, same))

    go : (k : ℕ) → k < length olds → (m : Bool) → get_or mask k false ≡ m → picked (lanes_each (ls ++ l ∷ [])) news k ≡ (if m then get_or (lanes_rows l) k null else get_or ys k null)
    go k lt true e = ap (λ c. get_or (get_or (lanes_each (ls ++ l ∷ [])) c []) k null) (on k (get_or news k 0) lt e (own k lt)) ∙ ap (λ r. get_or r k null) (last ls l)
    go k lt false e =
        let kept : get_or news k 0 ≡ get_or olds k 0 = off k (get_or news k 0) lt e (own k lt) ∙ get_or_default olds k (get_or news k 0) 0 lt in
        ap (λ c. get_or (get_or (lanes_each (ls ++ l ∷ [])) c []) k null) kept ∙ ap (λ r. get_or r k null) (before ls l (get_or olds k 0) (within k)) ∙ sym (at_picked (lanes_each ls) olds k lt) ∙ ap (λ r. get_or r k null) view

-- and the number of each is that of a column
pub within_put : (ls : List Lanes) (l : Lanes) (mask : List Bool) (olds news : List ℕ) → length news ≡ length olds → ((k : ℕ) → get_or olds k 0 < length ls) →
    ((i x : ℕ) → i < length olds → get_or mask i false ≡ true → x ≡ get_or news i x → x ≡ length ls) → ((i x : ℕ) → i < length olds → get_or mask i false ≡ false → x ≡ get_or news i x → x ≡ get_or olds i x) →
    (k : ℕ) → get_or news k 0 < length ls + 1
within_put ls l mask olds news same within on off k = ⊎_elim (λ lt. go lt (get_or mask k false) refl) (λ past. omega (arith, get_or_past news k 0 (omega (arith, same)), within k)) (cases_lt k (length olds))
  where
    own : k < length olds → get_or news k 0 ≡ get_or news k (get_or news k 0)
    own lt = get_or_default news k 0 (get_or news k 0) (omega (arith, same))

    go : k < length olds → (m : Bool) → get_or mask k false ≡ m → get_or news k 0 < length ls + 1
    go lt true e = omega (arith, on k (get_or news k 0) lt e (own lt))
    go lt false e = omega (arith, off k (get_or news k 0) lt e (own lt) ∙ get_or_default olds k (get_or news k 0) 0 lt, within k)

-- ---- rows that are written one after another

pub masked_more : (f : List ℕ → Datum) (bs : List Bool) (ss : List (List ℕ)) (b : Bool) (s : List ℕ) → length bs ≡ length ss → masked (bs ++ b ∷ []) (map f (ss ++ s ∷ [])) ≡ masked bs (map f ss) ++ shown_row f b s ∷ []
masked_more f [] [] b s e = refl
masked_more f [] (t ∷ ss) b s e = absurd (omega arith)
masked_more f (c ∷ bs) [] b s e = absurd (omega arith)
masked_more f (c ∷ bs) (t ∷ ss) b s e = ap (λ l. (if c then f t else null) ∷ l) (masked_more f bs ss b s (omega arith))

pub row_more : (f : List ℕ → Datum) (h : ℕ → Datum) (k : ℕ) (bs new : List Bool) (ss news : List (List ℕ)) (b : Bool) (s : List ℕ) → length bs ≡ length ss → masked bs (map f ss) ≡ each_row k h → new ≡ bs ++ b ∷ [] → news ≡ ss ++ s ∷ [] → shown_row f b s ≡ h k →
    masked new (map f news) ≡ each_row (k + 1) h
row_more f h k bs new ss news b s long so_far pushed added here =
    ap (λ l. masked l (map f news)) pushed ∙ ap (λ l. masked (bs ++ b ∷ []) (map f l)) added ∙ masked_more f bs ss b s long ∙ ap (λ l. l ++ shown_row f b s ∷ []) so_far ∙ ap (λ d. each_row k h ++ d ∷ []) here
    ∙ sym (map-range_with_len_more h 0 k k (omega arith))
