-- Columns merged by masks that are given.
use Rattle.std.proofs.Common.{◌≡◌, ℕ, ◌+◌, ◌<◌, ◌≤◌, List, [], ◌∷◌, ◌++◌, length, get_or, drop, refl, sym, ap, ◌∙◌, arith, suc, Bool, true, false, ◌||◌, append_assoc}
use Rattle.std.specs.Prelude.{if◌then◌else◌}
use Rattle.std.specs.List.{list_any}
use Rattle.std.proofs.Math.ListN.{replicate}
use Rattle.std.proofs.lemmas.List.{drop_all, append-nil, map-append, length-map, length-append}
use Rattle.vx_dtype.proofs.Lists.{drop_next}
use Rattle.vx_value.specs.Columns.{Batch}
use Rattle.vx_value.specs.Fits.{Fits, IsBatch}
use Rattle.vx_value.specs.Types.{LogicalType, Datum, null}
use Rattle.vx_eval_masks.specs.Masks.{both, but}
use Rattle.vx_eval_masks.specs.Merges.{merged_at, EachMask, AreApart, claimed, unclaimed}
use Rattle.vx_eval_masks.proofs.Apart.{merged-snoc, claimed-snoc}
use Rattle.vx_eval.specs.declared.rows.Rows.{Rows}
use Rattle.vx_eval.specs.Choices.{EachBatch}
use Rattle.vx_eval.specs.Columns.{rows_view, rows_views, each_row, AllLong}
use Rattle.vx_eval.specs.FirstMerged.{masks_in, columns_in, InSomeMask, first_merged}
use Rattle.vx_eval.proofs.Filled.{each_same}
use Rattle.vx_eval.proofs.Lengths.{long-snoc}
use Rattle.vx_eval.proofs.Masked.{own_pair, own_long, own_apart, own_at}
use Rattle.vx_eval.proofs.Matched.{batch_at, rows_fit}

abbrev Branch : Type 0
Branch = List Bool × Batch

-- ---- masks, one after another

pub own_more : (bs : List Branch) (j : ℕ) (b : Branch) (masks new want : List (List Bool)) (copy left after : List Bool) → j < length bs → b ≡ get_or bs j b → masks ++ claimed left (masks_in (drop j bs)) ≡ want → copy ≡ both b.0 left → after ≡ but left b.0 →
    new ≡ masks ++ copy ∷ [] → new ++ claimed after (masks_in (drop (j + 1) bs)) ≡ want
own_more bs j b masks new want copy left after lt is so_far own leaves pushed =
    let ms = masks_in (drop (j + 1) bs) in
    ap (λ l. l ++ claimed after ms) pushed ∙ append_assoc masks (copy ∷ []) (claimed after ms) ∙ ap (λ o. masks ++ copy ∷ claimed o ms) leaves ∙ ap (λ m. masks ++ m ∷ claimed (but left b.0) ms) own
    ∙ sym (ap (λ l. masks ++ claimed left (masks_in l)) (drop_next bs j b lt is)) ∙ so_far

pub left_more : (bs : List Branch) (j : ℕ) (b : Branch) (left after want : List Bool) → j < length bs → b ≡ get_or bs j b → unclaimed left (masks_in (drop j bs)) ≡ want → after ≡ but left b.0 → unclaimed after (masks_in (drop (j + 1) bs)) ≡ want
left_more bs j b left after want lt is so_far leaves = ap (λ o. unclaimed o (masks_in (drop (j + 1) bs))) leaves ∙ sym (ap (λ l. unclaimed left (masks_in l)) (drop_next bs j b lt is)) ∙ so_far

pub own_done : (bs : List Branch) (j : ℕ) (rest copy left start : List Bool) (masks new : List (List Bool)) → length bs ≤ j → masks ++ claimed left (masks_in (drop j bs)) ≡ claimed start (masks_in bs) → unclaimed left (masks_in (drop j bs)) ≡ unclaimed start (masks_in bs) →
    copy ≡ both rest left → new ≡ masks ++ copy ∷ [] → new ≡ claimed start (masks_in bs ++ rest ∷ [])
own_done bs j rest copy left start masks new all so_far leaves own pushed =
    let none : drop j bs ≡ [] = drop_all j bs all in
    let are : masks ≡ claimed start (masks_in bs) = sym (append-nil masks) ∙ sym (ap (λ l. masks ++ claimed left (masks_in l)) none) ∙ so_far in
    let is : left ≡ unclaimed start (masks_in bs) = sym (ap (λ l. unclaimed left (masks_in l)) none) ∙ leaves in
    pushed ∙ ap (λ l. l ++ copy ∷ []) are ∙ ap (λ m. claimed start (masks_in bs) ++ m ∷ []) (own ∙ ap (both rest) is) ∙ sym (claimed-snoc start (masks_in bs) rest)

-- ---- columns, one after another

pub column_more : (bs : List Branch) (j : ℕ) (b : Branch) (columns new : List Rows) (r : Rows) (want : List (List Datum)) → j < length bs → b ≡ get_or bs j b → rows_views columns ++ columns_in (drop j bs) ≡ want → rows_view r ≡ b.1.rows → new ≡ columns ++ r ∷ [] →
    rows_views new ++ columns_in (drop (j + 1) bs) ≡ want
column_more bs j b columns new r want lt is so_far lends pushed =
    let cs = columns_in (drop (j + 1) bs) in
    ap (λ l. rows_views l ++ cs) pushed ∙ ap (λ l. l ++ cs) (map-append rows_view columns (r ∷ [])) ∙ append_assoc (rows_views columns) (rows_view r ∷ []) cs ∙ ap (λ c. rows_views columns ++ c ∷ cs) lends
    ∙ sym (ap (λ l. rows_views columns ++ columns_in l) (drop_next bs j b lt is)) ∙ so_far

pub columns_done : (bs : List Branch) (j : ℕ) (columns new : List Rows) (r : Rows) (last : List Datum) → length bs ≤ j → rows_views columns ++ columns_in (drop j bs) ≡ columns_in bs → rows_view r ≡ last → new ≡ columns ++ r ∷ [] → rows_views new ≡ columns_in bs ++ last ∷ []
columns_done bs j columns new r last all so_far lends pushed =
    let none : drop j bs ≡ [] = drop_all j bs all in
    let are : rows_views columns ≡ columns_in bs = sym (append-nil (rows_views columns)) ∙ sym (ap (λ l. rows_views columns ++ columns_in l) none) ∙ so_far in
    ap rows_views pushed ∙ map-append rows_view columns (r ∷ []) ∙ ap (λ l. l ++ rows_view r ∷ []) are ∙ ap (λ c. columns_in bs ++ c ∷ []) lends

-- ---- all together

-- where each row is in some mask, null is never seen
covered : (bs : List Branch) (r : Bool) (d : Datum) (k : ℕ) → (r || list_any (λ (b : Branch). get_or b.0 k false) bs) ≡ true → merged_at (masks_in bs) (columns_in bs) (if r then d else null) k ≡ merged_at (masks_in bs) (columns_in bs) d k
covered bs true d k some = refl
covered [] false d k some = cc
covered (b ∷ bs) false d k some = go (get_or b.0 k false) refl (λ h. covered bs false d k h)
  where
    go : (c : Bool) → get_or b.0 k false ≡ c → ((false || list_any (λ (b : Branch). get_or b.0 k false) bs) ≡ true → merged_at (masks_in bs) (columns_in bs) null k ≡ merged_at (masks_in bs) (columns_in bs) d k) →
        (if c then get_or b.1.rows k null else merged_at (masks_in bs) (columns_in bs) null k) ≡ (if c then get_or b.1.rows k null else merged_at (masks_in bs) (columns_in bs) d k)
    go true e rest = refl
    go false e rest = rest (sym (ap (λ x. x || list_any (λ (b : Branch). get_or b.0 k false) bs) e) ∙ some)

length-in : (bs : List Branch) → length (columns_in bs) ≡ length (masks_in bs)
length-in [] = refl
length-in (b ∷ bs) = ap suc (length-in bs)

pub record Ready (n : ℕ) (bs : List Branch) (otherwise : List Datum) (masks : List (List Bool)) (columns : List Rows) : Type 0 where
  pub pairs : length columns ≡ length masks
  pub masks_long : EachMask n masks
  pub columns_long : AllLong n (rows_views columns)
  pub apart : AreApart masks
  pub merges : each_row n (merged_at masks (rows_views columns) null) ≡ each_row n (first_merged bs otherwise)

pub ready : (bs : List Branch) (rest : List Bool) (otherwise : List Datum) (masks : List (List Bool)) (columns : List Rows) → EachMask (length rest) (masks_in bs) → AllLong (length rest) (columns_in bs) → length otherwise ≡ length rest → InSomeMask bs rest →
    masks ≡ claimed (replicate (length rest) true) (masks_in bs ++ rest ∷ []) → rows_views columns ≡ columns_in bs ++ otherwise ∷ [] → Ready (length rest) bs otherwise masks columns
ready bs rest otherwise masks columns each long last some own are =
    let n = length rest in
    let ms : List (List Bool) = masks_in bs ++ rest ∷ [] in
    let all : EachMask n ms = long-snoc n (masks_in bs) rest each refl in
    let a : length columns ≡ length (columns_in bs) + 1 = sym (length-map columns rows_view) ∙ ap length are ∙ length-append (columns_in bs) (otherwise ∷ []) in
    let b : length masks ≡ length (masks_in bs) + 1 = own_pair n ms masks own ∙ length-append (masks_in bs) (rest ∷ []) in
    let same : length (columns_in bs) ≡ length (masks_in bs) = length-in bs in
    record {
      pairs = omega arith;
      masks_long = own_long n ms masks own all;
      columns_long = rw are (long-snoc n (columns_in bs) otherwise long last);
      apart = own_apart n ms masks own all;
      merges = each_same n _ _
          (λ k lt.
          ap (λ v. merged_at masks v null k) are ∙ own_at n k ms masks (columns_in bs ++ otherwise ∷ []) null own all lt ∙ merged-snoc (masks_in bs) (columns_in bs) rest otherwise null k same
          ∙ covered bs (get_or rest k false) (get_or otherwise k null) k (some k lt));
    }

-- ---- the merged rows are of the type

merged_fits : (t : LogicalType) (n k : ℕ) (bs : List Branch) (d : Datum) → k < n → AllLong n (columns_in bs) → EachBatch t (columns_in bs) → Fits d t → Fits (merged_at (masks_in bs) (columns_in bs) d k) t
merged_fits t n k [] d lt long is e = e
merged_fits t n k (b ∷ bs) d lt long is e = go (get_or b.0 k false) (batch_at t b.1.rows k is.0 (omega (arith, long.0))) (merged_fits t n k bs d lt long.1 is.1 e)
  where
    go : (c : Bool) → Fits (get_or b.1.rows k null) t → Fits (merged_at (masks_in bs) (columns_in bs) d k) t → Fits (if c then get_or b.1.rows k null else merged_at (masks_in bs) (columns_in bs) d k) t
    go true x y = x
    go false x y = y

pub merges_fit : (t : LogicalType) (n : ℕ) (bs : List Branch) (otherwise : List Datum) → AllLong n (columns_in bs) → length otherwise ≡ n → EachBatch t (columns_in bs) → IsBatch t otherwise → IsBatch t (each_row n (first_merged bs otherwise))
merges_fit t n bs otherwise long last fit last_fit = rows_fit t (first_merged bs otherwise) n (λ k lt. merged_fits t n k bs (get_or otherwise k null) lt long fit (batch_at t otherwise k last_fit (omega arith)))
