-- Conditions and values of columns, taken in turn.
use Rattle.std.proofs.Common.{◌≡◌, ℕ, ◌+◌, ◌<◌, List, [], ◌∷◌, map, length, get_or, refl, sym, ap, subst, ◌∙◌, arith, zero, suc, Option, Some, None, Result, Ok, Bool, true, false, IsTrue}
use Rattle.std.specs.Prelude.{if◌then◌else◌, MatchOption, option_map}
use Rattle.std.specs.List.{range_with_len, list_all}
use Rattle.std.proofs.lemmas.Bool.{and_parts}
use Rattle.std.proofs.lemmas.List.{length-map}
use Rattle.vx_dtype.specs.declared.error.VortexError.{VortexError}
use Rattle.vx_value.specs.Columns.{Batch, batch}
use Rattle.vx_value.specs.Fits.{fits, Fits, IsBatch}
use Rattle.vx_value.specs.Types.{LogicalType, ty, Datum, null, is_nullable}
use Rattle.vx_fn.specs.Values.{is_true, first_true}
use Rattle.vx_eval.specs.Choices.{rows_in, height, EachBatch, matched_at, in_turn}
use Rattle.vx_eval.specs.Columns.{row_at, each_row, AllLong}
use Rattle.vx_eval.proofs.Filled.{each_same}

-- the columns in turn have the same length
pub in_turn_long : (n : ℕ) (cs vs : List (List Datum)) (o : Option (List Datum)) → AllLong n cs → AllLong n vs → MatchOption o Unit (λ c. length c ≡ n) → AllLong n (in_turn cs vs o)
in_turn_long n (c ∷ cs) (v ∷ vs) o a b e = (a.0, (b.0, in_turn_long n cs vs o a.1 b.1 e))
in_turn_long n [] vs None a b e = tt
in_turn_long n [] vs (Some c) a b e = (e, tt)
in_turn_long n (c ∷ cs) [] None a b e = tt
in_turn_long n (c ∷ cs) [] (Some d) a b e = (e, tt)

-- the first true of the columns in turn is the first match
pub in_turn_at : (cs vs : List (List Datum)) (o : Option (List Datum)) (k : ℕ) → length vs ≡ length cs → first_true (row_at (in_turn cs vs o) k) ≡ matched_at cs vs o k
in_turn_at [] [] None k e = refl
in_turn_at [] [] (Some c) k e = refl
in_turn_at (c ∷ cs) (v ∷ vs) o k e = ap (λ d. if is_true (get_or c k null) then get_or v k null else d) (in_turn_at cs vs o k (omega arith))
in_turn_at [] (v ∷ vs) o k e = absurd (omega arith)
in_turn_at (c ∷ cs) [] o k e = absurd (omega arith)

pub batch_at : (t : LogicalType) (rows : List Datum) (k : ℕ) → IsBatch t rows → k < length rows → Fits (get_or rows k null) t
batch_at t [] k is lt = absurd (omega arith)
batch_at t (v ∷ rows) zero is lt = (and_parts (fits v t) _ is).0
batch_at t (v ∷ rows) (suc k) is lt = batch_at t rows k (and_parts (fits v t) _ is).1 (omega arith)

null_fits : (t : LogicalType) → IsTrue (is_nullable t) → Fits null t
null_fits (ty s n) e = e

pub matched_fits : {A : Type 0} (t : LogicalType) (n k : ℕ) (cs vs : List (List Datum)) (o : Option A) (f : A → List Datum) → k < n → AllLong n vs → EachBatch t vs →
    MatchOption o (IsTrue (is_nullable t)) (λ a. (length (f a) ≡ n) × IsBatch t (f a)) → Fits (matched_at cs vs (option_map f o) k) t
matched_fits t n k (c ∷ cs) (v ∷ vs) o f lt long is e = go (is_true (get_or c k null)) (batch_at t v k is.0 (omega (arith, long.0))) (matched_fits t n k cs vs o f lt long.1 is.1 e)
  where
    go : (b : Bool) → Fits (get_or v k null) t → Fits (matched_at cs vs (option_map f o) k) t → Fits (if b then get_or v k null else matched_at cs vs (option_map f o) k) t
    go true a b = a
    go false a b = b
matched_fits t n k [] vs None f lt long is e = null_fits t e
matched_fits t n k [] vs (Some a) f lt long is e = batch_at t (f a) k e.1 (omega (arith, e.0))
matched_fits t n k (c ∷ cs) [] None f lt long is e = null_fits t e
matched_fits t n k (c ∷ cs) [] (Some a) f lt long is e = batch_at t (f a) k e.1 (omega (arith, e.0))

each_fits : (t : LogicalType) (g : ℕ → Datum) (a n : ℕ) → ((k : ℕ) → k < a + n → Fits (g k) t) → IsTrue (list_all (λ v. fits v t) (map g (range_with_len a n)))
each_fits t g a zero h = refl
each_fits t g a (suc n) h = rw (h a (omega arith)) (each_fits t g (a + 1) n (λ k lt. h k (omega arith)))

pub rows_fit : (t : LogicalType) (g : ℕ → Datum) (n : ℕ) → ((k : ℕ) → k < n → Fits (g k) t) → IsBatch t (each_row n g)
rows_fit t g n h = each_fits t g 0 n (λ k lt. h k (omega arith))

-- ---- from what the calls give

abbrev turned : List (List Datum) → Result (List (List Datum)) VortexError
turned cs = Ok cs

abbrev ok : List Datum → Result (List Datum) VortexError
ok rows = Ok rows

pub count_is : (cs : List Batch) (b : Batch) (n : ℕ) → 0 < length cs → b ≡ get_or cs 0 b → n ≡ length b.rows → n ≡ height cs
count_is [] b n some is counted = absurd (omega arith)
count_is (x ∷ cs) b n some is counted = counted ∙ ap (λ (y : Batch). length y.rows) is

last_long : {A : Type 0} (o : Option A) (f : A → List Datum) (P : Type 0) (n : ℕ) (t : LogicalType) → MatchOption o P (λ a. (length (f a) ≡ n) × IsBatch t (f a)) → MatchOption (option_map f o) Unit (λ c. length c ≡ n)
last_long None f P n t h = tt
last_long (Some a) f P n t h = h.0

pub turned_long : {A : Type 0} (n m : ℕ) (cs vs ds : List (List Datum)) (o : Option A) (f : A → List Datum) (t : LogicalType) → turned (in_turn cs vs (option_map f o)) ≡ Ok ds → n ≡ m → AllLong m cs → AllLong m vs →
    MatchOption o (IsTrue (is_nullable t)) (λ a. (length (f a) ≡ m) × IsBatch t (f a)) → AllLong n ds
turned_long n m cs vs ds o f t are counted a b e =
    let same : in_turn cs vs (option_map f o) ≡ ds = cc in
    subst (λ k. AllLong k ds) (sym counted) (subst (AllLong m) same (in_turn_long m cs vs (option_map f o) a b (last_long o f _ m t e)))

-- the rows that were chosen
pub chosen_rows : (n : ℕ) (cs vs : List Batch) (ds : List (List Datum)) (o : Option (List Datum)) (rows : List Datum) → turned (in_turn (rows_in cs) (rows_in vs) o) ≡ Ok ds → n ≡ height cs → length vs ≡ length cs →
    rows ≡ each_row n (λ k. first_true (row_at ds k)) → rows ≡ each_row (height cs) (matched_at (rows_in cs) (rows_in vs) o)
chosen_rows n cs vs ds o rows are counted pairs is =
    let same : ds ≡ in_turn (rows_in cs) (rows_in vs) o = cc in
    let many : length (rows_in vs) ≡ length (rows_in cs) = length-map vs _ ∙ pairs ∙ sym (length-map cs _) in
    is ∙ ap (λ k. each_row k (λ k. first_true (row_at ds k))) counted ∙ each_same (height cs) _ _ (λ k lt. ap (λ es. first_true (row_at es k)) same ∙ in_turn_at (rows_in cs) (rows_in vs) o k many)

pub chosen_fit : {A : Type 0} (t : LogicalType) (m : ℕ) (cs vs : List (List Datum)) (o : Option A) (f : A → List Datum) (rows : List Datum) → rows ≡ each_row m (matched_at cs vs (option_map f o)) → AllLong m vs → EachBatch t vs →
    MatchOption o (IsTrue (is_nullable t)) (λ a. (length (f a) ≡ m) × IsBatch t (f a)) → IsBatch t rows
chosen_fit t m cs vs o f rows is long fit e = subst (IsBatch t) (sym is) (rows_fit t (matched_at cs vs (option_map f o)) m (λ k lt. matched_fits t m k cs vs o f lt long fit e))

pub column_of : (t u : LogicalType) (rows made said : List Datum) (out : Batch) → rows ≡ said → ok rows ≡ Ok made → u ≡ t → out ≡ batch u made → batch t said ≡ out
column_of t u rows made said out is are same made_is =
    let values : said ≡ made = cc in
    ap (batch t) values ∙ ap (λ s. batch s made) (sym same) ∙ sym made_is
