-- Conditions and values in turn, and masks in their place.
use Rattle.std.proofs.Common.{◌≡◌, ℕ, ◌+◌, ◌<◌, List, [], ◌∷◌, map, length, get_or, refl, sym, ap, subst, ◌∙◌, arith, zero, suc, Option, Some, None, Bool, true, false, IsTrue}
use Rattle.std.specs.Prelude.{if◌then◌else◌, MatchOption, option_map}
use Rattle.std.specs.List.{range_with_len, list_all}
use Rattle.std.proofs.lemmas.Bool.{and_parts}
use Rattle.std.proofs.lemmas.List.{length-map}
use Rattle.vx_value.specs.Columns.{Batch}
use Rattle.vx_value.specs.Fits.{fits, Fits, IsBatch}
use Rattle.vx_value.specs.Types.{LogicalType, ty, Datum, null, bool, is_nullable}
use Rattle.vx_fn.specs.Values.{is_true, first_true}
use Rattle.vx_array_kernels.specs.Choices.{case_rows, EachLong}
use Rattle.vx_eval_masks.specs.Merges.{EachMask}
use Rattle.vx_eval.specs.Choices.{rows_in, height, EachBatch, matched_at, in_turn}
use Rattle.vx_eval.specs.Columns.{row_at, each_row, AllLong}
use Rattle.vx_eval.specs.FirstMerged.{masks_in, columns_in, first_merged}
use Rattle.vx_eval.proofs.Filled.{each_same}
use Rattle.vx_array_merges.specs.Turns.{truths_in}

-- ---- conditions and values in turn

-- they are as long
in_turn_long : (n : ℕ) (cs vs : List (List Datum)) (o : Option (List Datum)) → AllLong n cs → AllLong n vs → MatchOption o Unit (λ c. length c ≡ n) → EachLong n (in_turn cs vs o)
in_turn_long n (c ∷ cs) (v ∷ vs) o a b e = (a.0, (b.0, in_turn_long n cs vs o a.1 b.1 e))
in_turn_long n [] vs None a b e = tt
in_turn_long n [] vs (Some c) a b e = (e, tt)
in_turn_long n (c ∷ cs) [] None a b e = tt
in_turn_long n (c ∷ cs) [] (Some d) a b e = (e, tt)

-- what CASE gives of them is the first match
in_turn_at : (cs vs : List (List Datum)) (o : Option (List Datum)) (k : ℕ) → length vs ≡ length cs → first_true (row_at (in_turn cs vs o) k) ≡ matched_at cs vs o k
in_turn_at [] [] None k e = refl
in_turn_at [] [] (Some c) k e = refl
in_turn_at (c ∷ cs) (v ∷ vs) o k e = ap (λ d. if is_true (get_or c k null) then get_or v k null else d) (in_turn_at cs vs o k (omega arith))
in_turn_at [] (v ∷ vs) o k e = absurd (omega arith)
in_turn_at (c ∷ cs) [] o k e = absurd (omega arith)

pub case_matched : (n : ℕ) (cs vs : List (List Datum)) (o : Option (List Datum)) → length vs ≡ length cs → case_rows n (in_turn cs vs o) ≡ each_row n (matched_at cs vs o)
case_matched n cs vs o pairs = each_same n _ _ (λ k lt. in_turn_at cs vs o k pairs)

-- ---- the rows are of the type

batch_at : (t : LogicalType) (rows : List Datum) (k : ℕ) → IsBatch t rows → k < length rows → Fits (get_or rows k null) t
batch_at t [] k is lt = absurd (omega arith)
batch_at t (v ∷ rows) zero is lt = (and_parts (fits v t) _ is).0
batch_at t (v ∷ rows) (suc k) is lt = batch_at t rows k (and_parts (fits v t) _ is).1 (omega arith)

null_fits : (t : LogicalType) → IsTrue (is_nullable t) → Fits null t
null_fits (ty s n) e = e

-- what stands behind all conditions
abbrev pub LastFits : ℕ → LogicalType → Option (List Datum) → Type 0
LastFits n t o = MatchOption o (IsTrue (is_nullable t)) (λ c. (length c ≡ n) × IsBatch t c)

matched_fits : (t : LogicalType) (n k : ℕ) (cs vs : List (List Datum)) (o : Option (List Datum)) → k < n → AllLong n vs → EachBatch t vs → LastFits n t o → Fits (matched_at cs vs o k) t
matched_fits t n k (c ∷ cs) (v ∷ vs) o lt long is e = go (is_true (get_or c k null)) (batch_at t v k is.0 (omega (arith, long.0))) (matched_fits t n k cs vs o lt long.1 is.1 e)
  where
    go : (b : Bool) → Fits (get_or v k null) t → Fits (matched_at cs vs o k) t → Fits (if b then get_or v k null else matched_at cs vs o k) t
    go true a b = a
    go false a b = b
matched_fits t n k [] vs None lt long is e = null_fits t e
matched_fits t n k [] vs (Some c) lt long is e = batch_at t c k e.1 (omega (arith, e.0))
matched_fits t n k (c ∷ cs) [] None lt long is e = null_fits t e
matched_fits t n k (c ∷ cs) [] (Some d) lt long is e = batch_at t d k e.1 (omega (arith, e.0))

rows_fit : (t : LogicalType) (g : ℕ → Datum) (a n : ℕ) → ((k : ℕ) → k < a + n → Fits (g k) t) → IsTrue (list_all (λ v. fits v t) (map g (range_with_len a n)))
rows_fit t g a zero h = refl
rows_fit t g a (suc n) h = rw (h a (omega arith)) (rows_fit t g (a + 1) n (λ k lt. h k (omega arith)))

last_long : (n : ℕ) (t : LogicalType) (o : Option (List Datum)) → LastFits n t o → MatchOption o Unit (λ c. length c ≡ n)
last_long n t None e = tt
last_long n t (Some c) e = e.0

-- what is asked of conditions and values in turn
pub record Turns (n : ℕ) (t : LogicalType) (cs vs : List (List Datum)) (o : Option (List Datum)) (below : List (List Datum)) : Type 0 where
  pub long : EachLong n below
  pub fit : IsBatch t (case_rows n below)
  pub rows : case_rows n below ≡ each_row n (matched_at cs vs o)

pub turns : (n : ℕ) (t : LogicalType) (cs vs : List (List Datum)) (o : Option (List Datum)) (below : List (List Datum)) → below ≡ in_turn cs vs o → length vs ≡ length cs → AllLong n cs → AllLong n vs → EachBatch t vs → LastFits n t o → Turns n t cs vs o below
turns n t cs vs o below are pairs tests choices is last =
    let rows : case_rows n below ≡ each_row n (matched_at cs vs o) = ap (case_rows n) are ∙ case_matched n cs vs o pairs in
    record {
      long = subst (EachLong n) (sym are) (in_turn_long n cs vs o tests choices (last_long n t o last));
      fit = subst (IsBatch t) (sym rows) (rows_fit t (matched_at cs vs o) 0 n (λ k lt. matched_fits t n k cs vs o (omega arith) choices is last));
      rows = rows;
    }

-- ---- the first of the conditions

pub count_is : (cs : List Batch) (b : Batch) (n : ℕ) → 0 < length cs → b ≡ get_or cs 0 b → n ≡ length b.rows → n ≡ height cs
count_is [] b n some is counted = absurd (omega arith)
count_is (x ∷ cs) b n some is counted = counted ∙ ap (λ (y : Batch). length y.rows) is

pub pairs_in : (cs vs : List Batch) → length vs ≡ length cs → length (rows_in vs) ≡ length (rows_in cs)
pairs_in cs vs pairs = length-map vs _ ∙ pairs ∙ sym (length-map cs _)

pub last_given : {A : Type 0} (n : ℕ) (t : LogicalType) (o : Option A) (f : A → List Datum) → MatchOption o (IsTrue (is_nullable t)) (λ a. (length (f a) ≡ n) × IsBatch t (f a)) → LastFits n t (option_map f o)
last_given n t None f e = e
last_given n t (Some a) f e = e

-- ---- masks in the place of conditions

abbrev Branch : Type 0
Branch = List Bool × Batch

mask_at : (m : List Bool) (k : ℕ) → is_true (get_or (map bool m) k null) ≡ is_true (bool (get_or m k false))
mask_at [] k = refl
mask_at (b ∷ m) zero = refl
mask_at (b ∷ m) (suc k) = mask_at m k

masked_at : (bs : List Branch) (last : List Datum) (k : ℕ) → matched_at (truths_in (masks_in bs)) (columns_in bs) (Some last) k ≡ first_merged bs last k
masked_at [] last k = refl
masked_at (b ∷ bs) last k =
    ap (λ c. if c then get_or b.1.rows k null else matched_at (truths_in (masks_in bs)) (columns_in bs) (Some last) k) (mask_at b.0 k)
    ∙ ap (λ d. if is_true (bool (get_or b.0 k false)) then get_or b.1.rows k null else d) (masked_at bs last k)

pub merged_rows : (n : ℕ) (bs : List Branch) (last : List Datum) → each_row n (matched_at (truths_in (masks_in bs)) (columns_in bs) (Some last)) ≡ each_row n (first_merged bs last)
merged_rows n bs last = each_same n _ _ (λ k lt. masked_at bs last k)

pub masks_long : (n : ℕ) (ms : List (List Bool)) → EachMask n ms → AllLong n (truths_in ms)
masks_long n [] all = tt
masks_long n (m ∷ ms) all = (length-map m bool ∙ all.0, masks_long n ms all.1)

pub masks_pair : (bs : List Branch) → length (columns_in bs) ≡ length (truths_in (masks_in bs))
masks_pair [] = refl
masks_pair (b ∷ bs) = ap suc (masks_pair bs)
