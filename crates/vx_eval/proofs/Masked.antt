-- Choices between columns by masks.
use Rattle.std.proofs.Common.{◌≡◌, ℕ, ◌+◌, ◌<◌, ◌≤◌, List, [], ◌∷◌, ◌++◌, map, length, get_or, refl, sym, ap, subst, ◌∙◌, arith, suc, Bool, true, false, Option, Some, None, Result, Ok, Err, IfOk, Bor, append_assoc}
use Rattle.std.specs.Prelude.{if◌then◌else◌, MatchOption, option_map}
use Rattle.std.proofs.Math.ListN.{replicate, set}
use Rattle.std.proofs.lemmas.List.{length-map, map-append, get_or-map, get_or_default, get_or-replicate, length-append, length-replicate}
use Rattle.vx_value.specs.Types.{Datum, null}
use Rattle.vx_value.specs.declared.value.Value.{Value}
use Rattle.vx_value.specs.Views.{value_of}
use Rattle.vx_fn.specs.Values.{is_true, first_true}
use Rattle.vx_eval_masks.specs.Masks.{both, but, IsAll}
use Rattle.vx_eval_masks.proofs.Pairs.{length-but}
use Rattle.vx_eval_masks.specs.Merges.{merged_at, EachMask, AreApart, HoldsIn, IsIn, claimed, unclaimed, IsWritten}
use Rattle.vx_eval_masks.proofs.Apart.{merged-at, merged-claimed, merged-snoc, claimed_apart, claimed_long, length-claimed, claimed-snoc, length-unclaimed, both-all}
use Rattle.vx_eval.specs.declared.rows.Rows.{Rows}
use Rattle.vx_eval.specs.declared.rows.Rows.TheVariants.{Same}
use Rattle.vx_eval.specs.Choices.{else_at, conditions_in, values_in, alone, truths, SameRows}
use Rattle.vx_eval.specs.Columns.{values_of, rows_view, rows_views, row_at, each_row, AllLong}
use Rattle.vx_eval.proofs.Filled.{as_rows, each_same}
use Rattle.vx_eval.proofs.Lengths.{long_at, long-snoc, long_front, long_of}
use Rattle.vx_eval.proofs.Trues.{true_at}
use Rattle.vx_value.proofs.TakenRows.{at_place, row_kept}

-- ---- columns in turn

-- the first true condition is the first true mask
pub first_true-masks : (cs : List (List Datum)) (k : ℕ) → merged_at (truths (conditions_in cs)) (values_in cs) (else_at (alone cs) k) k ≡ first_true (row_at cs k)
first_true-masks [] k = refl
first_true-masks (c ∷ []) k = refl
first_true-masks (c ∷ v ∷ cs) k =
    ap (λ b. if b then get_or v k null else merged_at (truths (conditions_in cs)) (values_in cs) (else_at (alone cs) k) k) (true_at c k)
    ∙ ap (λ d. if is_true (get_or c k null) then get_or v k null else d) (first_true-masks cs k)

pub truths_long : (n : ℕ) (cs : List (List Datum)) → AllLong n cs → EachMask n (truths (conditions_in cs))
truths_long n [] all = tt
truths_long n (c ∷ []) all = tt
truths_long n (c ∷ v ∷ cs) all = (length-map c is_true ∙ all.0, truths_long n cs all.1.1)

pub values_long : (n : ℕ) (cs : List (List Datum)) → AllLong n cs → AllLong n (values_in cs)
values_long n [] all = tt
values_long n (c ∷ []) all = tt
values_long n (c ∷ v ∷ cs) all = (all.1.0, values_long n cs all.1.1)

pub values_pair : (cs : List (List Datum)) → length (values_in cs) ≡ length (truths (conditions_in cs))
values_pair [] = refl
values_pair (c ∷ []) = refl
values_pair (c ∷ v ∷ cs) = ap suc (values_pair cs)

pub alone_long : (n : ℕ) (cs : List (List Datum)) → AllLong n cs → MatchOption (alone cs) Unit (λ c. length c ≡ n)
alone_long n [] all = tt
alone_long n (c ∷ []) all = all.0
alone_long n (c ∷ v ∷ cs) all = alone_long n cs all.1.1

-- ---- conditions that become masks, one after another

-- of columns in turn those before rs are masks and values, and these rows are left
pub record Splitting (n : ℕ) (cs : List (List Datum)) (rs : List Rows) (masks : List (List Bool)) (open_rows : List Bool) (values : List Rows) : Type 0 where
  pub size : length open_rows ≡ n
  pub all : AllLong n (rows_views rs)
  pub masks_are : masks ++ claimed open_rows (truths (conditions_in (rows_views rs))) ≡ claimed (replicate n true) (truths (conditions_in cs))
  pub rest_is : unclaimed open_rows (truths (conditions_in (rows_views rs))) ≡ unclaimed (replicate n true) (truths (conditions_in cs))
  pub values_are : rows_views values ++ values_in (rows_views rs) ≡ values_in cs
  pub last_is : alone (rows_views rs) ≡ alone cs

pub split_more : (n : ℕ) (cs : List (List Datum)) (rs mid rest : List Rows) (a b : Rows) (masks new : List (List Bool)) (m open_rows left : List Bool) (values more : List Rows) → Splitting n cs rs masks open_rows values → rs ≡ a ∷ mid → mid ≡ b ∷ rest →
    m ≡ both (map is_true (rows_view a)) open_rows → left ≡ but open_rows (map is_true (rows_view a)) → new ≡ masks ++ m ∷ [] → more ≡ values ++ b ∷ [] → Splitting n cs rest new left more
split_more n cs rs mid rest a b masks new m open_rows left values more s e f own leaves pushed valued =
    let t = truths (conditions_in (rows_views rest)) in
    let whole : rs ≡ a ∷ b ∷ rest = e ∙ ap (λ l. a ∷ l) f in
    let all : AllLong n (rows_views (a ∷ b ∷ rest)) = subst (λ l. AllLong n (rows_views l)) whole s.all in
    let long : length (map is_true (rows_view a)) ≡ length open_rows = length-map (rows_view a) is_true ∙ all.0 ∙ sym s.size in
    record {
      size = ap length leaves ∙ length-but open_rows (map is_true (rows_view a)) long ∙ s.size;
      all = all.1.1;
      masks_are = ap (λ l. l ++ claimed left t) pushed ∙ append_assoc masks (m ∷ []) (claimed left t) ∙ ap (λ o. masks ++ m ∷ claimed o t) leaves ∙ ap (λ x. masks ++ x ∷ claimed (but open_rows (map is_true (rows_view a))) t) own
          ∙ sym (ap (λ l. masks ++ claimed open_rows (truths (conditions_in (rows_views l)))) whole) ∙ s.masks_are;
      rest_is = ap (λ o. unclaimed o t) leaves ∙ sym (ap (λ l. unclaimed open_rows (truths (conditions_in (rows_views l)))) whole) ∙ s.rest_is;
      values_are = ap (λ l. rows_views l ++ values_in (rows_views rest)) valued ∙ ap (λ l. l ++ values_in (rows_views rest)) (map-append rows_view values (b ∷ [])) ∙ append_assoc (rows_views values) (rows_view b ∷ []) (values_in (rows_views rest))
          ∙ sym (ap (λ l. rows_views values ++ values_in (rows_views l)) whole) ∙ s.values_are;
      last_is = sym (ap (λ l. alone (rows_views l)) whole) ∙ s.last_is;
    }

-- what is known at the end
pub record IsSplit (n : ℕ) (cs : List (List Datum)) (masks : List (List Bool)) (rest : List Bool) (values : List Rows) (last : Option Rows) : Type 0 where
  pub masks_are : masks ≡ claimed (replicate n true) (truths (conditions_in cs))
  pub rest_is : rest ≡ unclaimed (replicate n true) (truths (conditions_in cs))
  pub values_are : rows_views values ≡ values_in cs
  pub last_is : option_map rows_view last ≡ alone cs

pub split : (n : ℕ) (cs : List (List Datum)) (masks : List (List Bool)) (rest : List Bool) (values : List Rows) (given last : Option Rows) → masks ≡ claimed (replicate n true) (truths (conditions_in cs)) → rest ≡ unclaimed (replicate n true) (truths (conditions_in cs)) →
    rows_views values ≡ values_in cs → option_map rows_view given ≡ alone cs → given ≡ last → IsSplit n cs masks rest values last
split n cs masks rest values given last own left beside behind is = record { masks_are = own; rest_is = left; values_are = beside; last_is = ap (option_map rows_view) (sym is) ∙ behind }

-- ---- all rows

every_row : (n k : ℕ) → k < n → get_or (replicate n true) k false ≡ true
every_row n k lt = get_or-replicate n k true false lt

masks_of_all : (n : ℕ) (ms : List (List Bool)) → EachMask n ms → EachMask (length (replicate n true)) ms
masks_of_all n ms each = subst (λ m. EachMask m ms) (sym (length-replicate n true)) each

-- masks of which each takes what those before it leave
pub own_long : (n : ℕ) (ms masks : List (List Bool)) → masks ≡ claimed (replicate n true) ms → EachMask n ms → EachMask n masks
own_long n ms masks are each = subst (EachMask n) (sym are) (subst (λ m. EachMask m (claimed (replicate n true) ms)) (length-replicate n true) (claimed_long (replicate n true) ms (masks_of_all n ms each)))

pub own_apart : (n : ℕ) (ms masks : List (List Bool)) → masks ≡ claimed (replicate n true) ms → EachMask n ms → AreApart masks
own_apart n ms masks are each = subst AreApart (sym are) (claimed_apart (replicate n true) ms (masks_of_all n ms each))

pub own_pair : (n : ℕ) (ms masks : List (List Bool)) → masks ≡ claimed (replicate n true) ms → length masks ≡ length ms
own_pair n ms masks are = ap length are ∙ length-claimed (replicate n true) ms

pub own_at : (n k : ℕ) (ms masks : List (List Bool)) (cs : List (List Datum)) (d : Datum) → masks ≡ claimed (replicate n true) ms → EachMask n ms → k < n → merged_at masks cs d k ≡ merged_at ms cs d k
own_at n k ms masks cs d are each lt = ap (λ m. merged_at m cs d k) are ∙ merged-claimed (replicate n true) ms cs d k (masks_of_all n ms each) (every_row n k lt)

-- the mask of what is left is the one that all rows would have behind the others
pub rest_own : (n : ℕ) (ms masks : List (List Bool)) (rest : List Bool) → masks ≡ claimed (replicate n true) ms → rest ≡ unclaimed (replicate n true) ms → EachMask n ms →
    masks ++ rest ∷ [] ≡ claimed (replicate n true) (ms ++ replicate n true ∷ [])
rest_own n ms masks rest are is each =
    let size : length (unclaimed (replicate n true) ms) ≡ n = length-unclaimed (replicate n true) ms (masks_of_all n ms each) ∙ length-replicate n true in
    ap (λ l. l ++ rest ∷ []) are ∙ ap (λ m. claimed (replicate n true) ms ++ m ∷ []) (is ∙ sym (both-all n _ size)) ∙ sym (claimed-snoc (replicate n true) ms (replicate n true))

pub all_long : (n : ℕ) (ms : List (List Bool)) → EachMask n ms → EachMask n (ms ++ replicate n true ∷ [])
all_long n ms each = long-snoc n ms (replicate n true) each (length-replicate n true)

-- beside the mask of all rows the last column is what is given
pub last_given : (n k : ℕ) (ms : List (List Bool)) (cs : List (List Datum)) (c : List Datum) → length cs ≡ length ms → k < n → merged_at (ms ++ replicate n true ∷ []) (cs ++ c ∷ []) null k ≡ merged_at ms cs (get_or c k null) k
last_given n k ms cs c e lt = merged-snoc ms cs (replicate n true) c null k e ∙ ap (λ b. merged_at ms cs (if b then get_or c k null else null) k) (every_row n k lt)

-- ---- a column that has every row

pub whole_is : (n : ℕ) (ms : List (List Bool)) (rs : List Rows) (d : ℕ → Datum) (j : ℕ) (r : Rows) → length rs ≡ length ms → EachMask n ms → AllLong n (rows_views rs) → AreApart ms → j < length ms → IsAll (get_or ms j []) → r ≡ get_or rs j r →
    rows_view r ≡ each_row n (λ k. merged_at ms (rows_views rs) (d k) k)
whole_is n ms rs d j r pairs each all apart lt every is =
    let within : j < length rs = omega arith in
    let size : length (get_or ms j []) ≡ n = long_at n ms j [] each lt in
    as_rows n (λ k. merged_at ms (rows_views rs) (d k) k) (rows_view r) (long_of n rows_view rs j r all within is)
    (λ k h. ap (λ c. get_or c k null) (ap rows_view is ∙ sym (get_or-map rows_view rs j r [] within)) ∙ sym (merged-at ms (rows_views rs) (d k) j k apart (length-map rs rows_view ∙ pairs) lt (every k (omega arith))))

-- ---- in the order of the rows

-- the column beside a mask has what is meant in its rows
pub holds_in : (ms : List (List Bool)) (rs : List Rows) (cs : List (List Datum)) (next j : ℕ) (r : Rows) (m : List Bool) → AreApart ms → length rs ≡ length ms → length cs ≡ length ms → SameRows next cs (rows_views rs) → j < length ms →
    r ≡ get_or rs j r → m ≡ get_or ms j m → HoldsIn m next (rows_view r) (merged_at ms cs null)
holds_in ms rs cs next j r m apart pairs long same lt is beside = λ k from within on.
    let mask : get_or ms j [] ≡ m = get_or_default ms j [] m lt ∙ sym beside in
    sym (at_place rows_view rs k j r (omega arith) is) ∙ ap (λ row. get_or row j null) (same k from) ∙ get_or-map (λ c. get_or c k null) cs j [] null (omega arith)
    ∙ sym (merged-at ms cs null j k apart long lt (ap (λ b. get_or b k false) mask ∙ on))

-- what follows from an answer
pub if_ok : {A E : Type 0} (r : Result A E) (P Q : A → Type 0) → ((a : A) → P a → Q a) → IfOk r P → IfOk r Q
if_ok (Ok a) P Q f h = f a h
if_ok (Err e) P Q f h = tt

pub stretch_left : (rs : List Rows) (end j : ℕ) (r s : Rows) → j < length rs → r ≡ get_or rs j r → ((k : ℕ) → end ≤ k → get_or (rows_view s) k null ≡ get_or (rows_view r) k null) → SameRows end (rows_views rs) (rows_views (set rs j s))
stretch_left rs end j r s lt is left = λ k h. row_kept rows_view rs k j r s lt is (left k h)

-- ---- over rows that are there

-- masks and columns that are left, over rows that are written
pub record Over (n : ℕ) (all : List (List Bool)) (columns : List (List Datum)) (before : List Datum) (ms : List (List Bool)) (rs : List Rows) (now : List Value) : Type 0 where
  pub pairs : length rs ≡ length ms
  pub masks : EachMask n ms
  pub long : AllLong n (rows_views rs)
  pub size : length now ≡ n
  pub same : (k : ℕ) → k < n → merged_at ms (rows_views rs) (get_or (values_of now) k null) k ≡ merged_at all columns (get_or before k null) k

pub popped : (rs new : List Rows) (r : Rows) → rs ≡ new ++ r ∷ [] → rows_views rs ≡ rows_views new ++ rows_view r ∷ []
popped rs new r e = ap rows_views e ∙ map-append rows_view new (r ∷ [])

pub over_front : (n : ℕ) (all : List (List Bool)) (columns : List (List Datum)) (before : List Datum) (ms new : List (List Bool)) (rs left : List Rows) (now : List Value) (m : List Bool) (r : Rows) → Over n all columns before ms rs now → ms ≡ new ++ m ∷ [] → rs ≡ left ++ r ∷ [] →
    (length left ≡ length new) × EachMask n new × (length m ≡ n) × AllLong n (rows_views left) × (length (rows_view r) ≡ n)
over_front n all columns before ms new rs left now m r o e f =
    let masks = long_front n new m (subst (EachMask n) e o.masks) in
    let front = long_front n (rows_views left) (rows_view r) (subst (AllLong n) (popped rs left r f) o.long) in
    let a : length ms ≡ length new + 1 = ap length e ∙ length-append new (m ∷ []) in
    let b : length rs ≡ length left + 1 = ap length f ∙ length-append left (r ∷ []) in
    let pairs : length rs ≡ length ms = o.pairs in
    (omega arith, masks.0, masks.1, front.0, front.1)

pub over_more : (n : ℕ) (all : List (List Bool)) (columns : List (List Datum)) (before : List Datum) (ms new : List (List Bool)) (rs left : List Rows) (now after : List Value) (m : List Bool) (r : Rows) → Over n all columns before ms rs now → ms ≡ new ++ m ∷ [] → rs ≡ left ++ r ∷ [] →
    IsWritten m (λ k. get_or (rows_view r) k null) (values_of now) (values_of after) → Over n all columns before new left after
over_more n all columns before ms new rs left now after m r o e f w =
    let front = over_front n all columns before ms new rs left now m r o e f in
    let was : length (values_of now) ≡ length now = length-map now value_of in
    let is : length (values_of after) ≡ length after = length-map after value_of in
    let kept : length (values_of after) ≡ length (values_of now) = w.long in
    let size : length now ≡ n = o.size in
    let pairs : length (rows_views left) ≡ length new = length-map left rows_view ∙ front.0 in
    record {
      pairs = front.0;
      masks = front.1;
      long = front.3;
      size = omega arith;
      same = λ k lt. ap (λ d. merged_at new (rows_views left) d k) (w.at k (omega arith)) ∙ sym (merged-snoc new (rows_views left) m (rows_view r) (get_or (values_of now) k null) k pairs)
          ∙ sym (ap (λ l. merged_at l (rows_views left ++ rows_view r ∷ []) (get_or (values_of now) k null) k) e) ∙ sym (ap (λ l. merged_at ms l (get_or (values_of now) k null) k) (popped rs left r f)) ∙ o.same k lt;
    }

pub over_done : (n : ℕ) (all : List (List Bool)) (columns : List (List Datum)) (before : List Datum) (ms : List (List Bool)) (rs : List Rows) (now : List Value) → Over n all columns before ms rs now → length ms ≡ 0 →
    values_of now ≡ each_row n (λ k. merged_at all columns (get_or before k null) k)
over_done n all columns before [] rs now o e = as_rows n (λ k. merged_at all columns (get_or before k null) k) (values_of now) (length-map now value_of ∙ o.size) (λ k lt. o.same k lt)
over_done n all columns before (m ∷ ms) rs now o e = absurd (omega arith)

-- ---- one value in each row

-- the value of a column of one value is what is meant in the rows of a mask
pub same_in : (m : List Bool) (from : ℕ) (r : Rows) (v : Bor Value) (n : ℕ) (g : ℕ → Datum) → r ≡ Same v n → length (rows_view r) ≡ length m → HoldsIn m from (rows_view r) g → IsIn m from (value_of v.now) g
same_in m from r v n g is long holds = λ k low within on.
    let size : length (rows_view r) ≡ n = ap (λ x. length (rows_view x)) is ∙ length-replicate n (value_of v.now) in
    sym (ap (λ x. get_or (rows_view x) k null) is ∙ get_or-replicate n k (value_of v.now) null (omega arith)) ∙ holds k low within on

-- ---- the choice as a whole

pub parts_pair : (n : ℕ) (cs : List (List Datum)) (masks : List (List Bool)) (rest : List Bool) (values : List Rows) (last : Option Rows) → IsSplit n cs masks rest values last → length values ≡ length masks
parts_pair n cs masks rest values last s = sym (length-map values rows_view) ∙ ap length s.values_are ∙ values_pair cs ∙ sym (own_pair n (truths (conditions_in cs)) masks s.masks_are)

pub parts_masks : (n : ℕ) (cs : List (List Datum)) (masks : List (List Bool)) (rest : List Bool) (values : List Rows) (last : Option Rows) → IsSplit n cs masks rest values last → AllLong n cs → EachMask n masks
parts_masks n cs masks rest values last s all = own_long n (truths (conditions_in cs)) masks s.masks_are (truths_long n cs all)

pub parts_columns : (n : ℕ) (cs : List (List Datum)) (masks : List (List Bool)) (rest : List Bool) (values : List Rows) (last : Option Rows) → IsSplit n cs masks rest values last → AllLong n cs → AllLong n (rows_views values)
parts_columns n cs masks rest values last s all = subst (AllLong n) (sym s.values_are) (values_long n cs all)

pub parts_apart : (n : ℕ) (cs : List (List Datum)) (masks : List (List Bool)) (rest : List Bool) (values : List Rows) (last : Option Rows) → IsSplit n cs masks rest values last → AllLong n cs → AreApart masks
parts_apart n cs masks rest values last s all = own_apart n (truths (conditions_in cs)) masks s.masks_are (truths_long n cs all)

-- over what is given where no condition is true
parts_at : (n k : ℕ) (cs : List (List Datum)) (masks : List (List Bool)) (rest : List Bool) (values : List Rows) (last : Option Rows) (d : Datum) → IsSplit n cs masks rest values last → AllLong n cs → k < n → d ≡ else_at (alone cs) k →
    merged_at masks (rows_views values) d k ≡ first_true (row_at cs k)
parts_at n k cs masks rest values last d s all lt is =
    ap (λ v. merged_at masks v d k) s.values_are ∙ own_at n k (truths (conditions_in cs)) masks (values_in cs) d s.masks_are (truths_long n cs all) lt
    ∙ ap (λ e. merged_at (truths (conditions_in cs)) (values_in cs) e k) is ∙ first_true-masks cs k

pub chosen_without : (n : ℕ) (cs : List (List Datum)) (masks : List (List Bool)) (rest : List Bool) (values : List Rows) → IsSplit n cs masks rest values None → AllLong n cs → each_row n (merged_at masks (rows_views values) null) ≡ each_row n (λ k. first_true (row_at cs k))
chosen_without n cs masks rest values s all = each_same n _ _ (λ k lt. parts_at n k cs masks rest values None null s all lt (ap (λ o. else_at o k) s.last_is))

pub last_long : (n : ℕ) (cs : List (List Datum)) (masks : List (List Bool)) (rest : List Bool) (values : List Rows) (column : Rows) → IsSplit n cs masks rest values (Some column) → AllLong n cs → length (rows_view column) ≡ n
last_long n cs masks rest values column s all = subst (λ o. MatchOption o Unit (λ c. length c ≡ n)) (sym s.last_is) (alone_long n cs all)

pub chosen_over : (n : ℕ) (cs : List (List Datum)) (masks : List (List Bool)) (rest : List Bool) (values : List Rows) (column : Rows) → IsSplit n cs masks rest values (Some column) → AllLong n cs →
    each_row n (λ k. merged_at masks (rows_views values) (get_or (rows_view column) k null) k) ≡ each_row n (λ k. first_true (row_at cs k))
chosen_over n cs masks rest values column s all = each_same n _ _ (λ k lt. parts_at n k cs masks rest values (Some column) (get_or (rows_view column) k null) s all lt (ap (λ o. else_at o k) s.last_is))

-- masks and columns with those of the last column behind them
pub record WithLast (n : ℕ) (cs : List (List Datum)) (masks : List (List Bool)) (values : List Rows) : Type 0 where
  pub pairs : length values ≡ length masks
  pub masks_long : EachMask n masks
  pub columns_long : AllLong n (rows_views values)
  pub apart : AreApart masks
  pub chosen : each_row n (merged_at masks (rows_views values) null) ≡ each_row n (λ k. first_true (row_at cs k))

pub with_last : (n : ℕ) (cs : List (List Datum)) (masks more : List (List Bool)) (rest : List Bool) (values columns : List Rows) (column : Rows) → IsSplit n cs masks rest values (Some column) → AllLong n cs → more ≡ masks ++ rest ∷ [] → columns ≡ values ++ column ∷ [] →
    WithLast n cs more columns
with_last n cs masks more rest values columns column s all pushed behind =
    let ms : List (List Bool) = truths (conditions_in cs) in
    let each : EachMask n ms = truths_long n cs all in
    let own : more ≡ claimed (replicate n true) (ms ++ replicate n true ∷ []) = pushed ∙ rest_own n ms masks rest s.masks_are s.rest_is each in
    let views : rows_views columns ≡ values_in cs ++ rows_view column ∷ [] = popped columns values column behind ∙ ap (λ l. l ++ rows_view column ∷ []) s.values_are in
    let long : length (rows_view column) ≡ n = last_long n cs masks rest values column s all in
    let a : length more ≡ length masks + 1 = ap length pushed ∙ length-append masks (rest ∷ []) in
    let b : length columns ≡ length values + 1 = ap length behind ∙ length-append values (column ∷ []) in
    let pairs : length values ≡ length masks = parts_pair n cs masks rest values (Some column) s in
    record {
      pairs = omega arith;
      masks_long = own_long n (ms ++ replicate n true ∷ []) more own (all_long n ms each);
      columns_long = subst (AllLong n) (sym views) (long-snoc n (values_in cs) (rows_view column) (values_long n cs all) long);
      apart = own_apart n (ms ++ replicate n true ∷ []) more own (all_long n ms each);
      chosen = each_same n _ _
          (λ k lt.
          ap (λ v. merged_at more v null k) views ∙ own_at n k (ms ++ replicate n true ∷ []) more (values_in cs ++ rows_view column ∷ []) null own (all_long n ms each) lt
          ∙ last_given n k ms (values_in cs) (rows_view column) (values_pair cs) lt
          ∙ ap (λ o. merged_at ms (values_in cs) (else_at o k) k) s.last_is ∙ first_true-masks cs k);
    }
