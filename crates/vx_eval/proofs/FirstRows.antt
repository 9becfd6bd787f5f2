-- Tests over all rows of a column, and the first row at which one passes.
use Rattle.std.proofs.Common.{◌≡◌, ℕ, ◌<◌, List, [], ◌∷◌, map, length, get_or, refl, sym, ap, ◌∙◌, arith, Some, None, Bool, true, false, zero, suc}
use Rattle.std.specs.Prelude.{not, ◌||◌, position}
use Rattle.std.proofs.lemmas.List.{length-replicate}
use Rattle.std.proofs.Math.ListN.{replicate}
use Rattle.std.specs.List.{list_any, range_with_len}
use Rattle.std.specs.Option.{option_map}
use Rattle.std.proofs.lemmas.List.FromFn.{get_or-map-range_with_len}
use Rattle.vx_dtype.specs.declared.error.VortexError.{VortexError}
use Rattle.vx_dtype.specs.declared.error.VortexError.TheVariants.{BadFill}
use Rattle.vx_floats.specs.declared.arithmetic.Arithmetic.{Arithmetic}
use Rattle.vx_value.specs.Fits.{fits}
use Rattle.vx_value.specs.Types.{LogicalType, ty, atomic, number, floating, decimals, Datum, null, int, is_null_datum}
use Rattle.vx_fn.specs.Faults.{node_fault, divides_by_zero, has_fault, is_outside, misfits, row_fault, fill_of, is_bad_fill, some_differ, differs, when}
use Rattle.vx_fn.specs.Functions.{binary, computes, fill_null}
use Rattle.vx_fn.specs.Values.{computed, at_two}
use Rattle.vx_eval.specs.Columns.{row_at, rows_of}
use Rattle.vx_eval.proofs.Filled.{first_row, no_row, map_map, all_rows}

-- ---- tests of some row

pub none_any : {A : Type 0} (p : A → Bool) (d : A) (xs : List A) → ((k : ℕ) → k < length xs → p (get_or xs k d) ≡ false) → list_any p xs ≡ false
none_any p d [] all = refl
none_any p d (x ∷ xs) all = let here : p x ≡ false = all 0 (omega arith) in rw here (none_any p d xs (λ k h. all (suc k) (omega arith)))

pub some_any : {A : Type 0} (p : A → Bool) (d : A) (xs : List A) (k : ℕ) → k < length xs → p (get_or xs k d) ≡ true → list_any p xs ≡ true
some_any p d [] k lt here = absurd (omega arith)
some_any p d (x ∷ xs) zero lt here = rw here refl
some_any p d (x ∷ xs) (suc k) lt here = let rest : list_any p xs ≡ true = some_any p d xs k (omega arith) here in go (p x) rest
  where
    go : (b : Bool) → list_any p xs ≡ true → (b || list_any p xs) ≡ true
    go true e = refl
    go false e = e

pub none_differ : (ds : List Datum) → ((k : ℕ) → suc k < length ds → differs (get_or ds 0 null) (get_or ds (suc k) null) ≡ false) → some_differ ds ≡ false
none_differ [] all = refl
none_differ (v ∷ vs) all = none_any (differs v) null vs (λ k h. all k (omega arith))

pub one_differs : (ds : List Datum) (k : ℕ) → suc k < length ds → differs (get_or ds 0 null) (get_or ds (suc k) null) ≡ true → some_differ ds ≡ true
one_differs [] k lt here = absurd (omega arith)
one_differs (v ∷ vs) k lt here = some_any (differs v) null vs k (omega arith) here

-- ---- one value in all rows

none_repeated : (p : Datum → Bool) (n : ℕ) (d : Datum) → p d ≡ false → list_any p (replicate n d) ≡ false
none_repeated p zero d not_here = refl
none_repeated p (suc n) d not_here = rw not_here (none_repeated p n d not_here)

any_repeated : (p : Datum → Bool) (n : ℕ) (d : Datum) (b : Bool) → p d ≡ b → list_any p (replicate (suc n) d) ≡ b
any_repeated p n d true here = rw here refl
any_repeated p n d false here = none_repeated p (suc n) d here

pub null_repeated : (n m : ℕ) (c : List Datum) (d : Datum) → c ≡ replicate m d → length c ≡ n → 0 < n → list_any is_null_datum c ≡ is_null_datum d
null_repeated n m c d is long some = let count : m ≡ n = sym (length-replicate m d) ∙ ap length (sym is) ∙ long in ap (list_any is_null_datum) (is ∙ ap (λ k. replicate k d) count) ∙ go n some
  where
    go : (n : ℕ) → 0 < n → list_any is_null_datum (replicate n d) ≡ is_null_datum d
    go zero some = absurd (omega arith)
    go (suc n) some = any_repeated is_null_datum n d (is_null_datum d) refl

pub repeated_differs : (n m : ℕ) (c : List Datum) (d : Datum) → c ≡ replicate m d → length c ≡ n → 1 < n → some_differ c ≡ differs d d
repeated_differs n m c d is long more = let count : m ≡ n = sym (length-replicate m d) ∙ ap length (sym is) ∙ long in ap some_differ (is ∙ ap (λ k. replicate k d) count) ∙ go n more
  where
    go : (n : ℕ) → 1 < n → some_differ (replicate n d) ≡ differs d d
    go zero more = absurd (omega arith)
    go (suc zero) more = absurd (omega arith)
    go (suc (suc n)) more = any_repeated (differs d) n d (differs d d) refl

-- ---- casts

pub first_misfit_at : (t : LogicalType) (n i : ℕ) (c : List Datum) (d : Datum) → i < n → ((k : ℕ) → k < i → fits (get_or c k null) t ≡ true) → d ≡ get_or c i null → fits d t ≡ false →
    Some i ≡ position (misfits t) (rows_of n (c ∷ []))
first_misfit_at t n i c d within before is here = sym (first_row (misfits t) (row_at (c ∷ [])) n i within (λ k h. ap not (before k h)) (ap (λ v. not (fits v t)) (sym is) ∙ ap not here))

pub no_misfit_at : (t : LogicalType) (n : ℕ) (c : List Datum) → ((k : ℕ) → k < n → fits (get_or c k null) t ≡ true) → None ≡ position (misfits t) (rows_of n (c ∷ []))
no_misfit_at t n c all = sym (no_row (misfits t) (row_at (c ∷ [])) n (λ k h. ap not (all k h)))

-- ---- fills

fills : (n : ℕ) (c f : List Datum) → length f ≡ n → map fill_of (rows_of n (c ∷ f ∷ [])) ≡ f
fills n c f long = map_map fill_of (row_at (c ∷ f ∷ [])) (range_with_len 0 n) ∙ all_rows f n long

pub fill_fault : (ts : List LogicalType) (n : ℕ) (c f : List Datum) → length f ≡ n → is_bad_fill ts f ≡ true → node_fault fill_null ts (rows_of n (c ∷ f ∷ [])) ≡ Some BadFill
fill_fault ts n c f long bad = ap (λ fs. when (is_bad_fill ts fs) BadFill) (fills n c f long) ∙ ap (λ b. when b BadFill) bad

pub fill_quiet : (ts : List LogicalType) (n : ℕ) (c f : List Datum) → length f ≡ n → is_bad_fill ts f ≡ false → node_fault fill_null ts (rows_of n (c ∷ f ∷ [])) ≡ None
fill_quiet ts n c f long good = ap (λ fs. when (is_bad_fill ts fs) BadFill) (fills n c f long) ∙ ap (λ b. when b BadFill) good

-- ---- arithmetic

outside_same : (t : LogicalType) (ts : List LogicalType) (v : Datum) → is_outside (t ∷ ts) v ≡ is_outside (t ∷ []) v
outside_same (ty (atomic (number p)) n) ts (int i) = refl
outside_same (ty (atomic (floating f)) n) ts (int i) = refl
outside_same (ty (atomic (decimals p s)) n) ts (int i) = refl
outside_same _ ts _ = refl

fault_same : (a : Arithmetic) (t : LogicalType) (ts : List LogicalType) (row : List Datum) → has_fault a (t ∷ ts) row ≡ has_fault a (t ∷ []) row
fault_same a t ts row = ap (λ b. divides_by_zero a row || b) (outside_same t ts (at_two (computed a) row))

pub arithmetic_faults : (a : Arithmetic) (t : LogicalType) (ts : List LogicalType) (n i : ℕ) (l r : List Datum) (v w : Datum) (e : VortexError) → i < n →
    ((k : ℕ) → k < i → has_fault a (t ∷ []) (get_or l k null ∷ get_or r k null ∷ []) ≡ false) → v ≡ get_or l i null → w ≡ get_or r i null → has_fault a (t ∷ []) (v ∷ w ∷ []) ≡ true → e ≡ row_fault a (v ∷ w ∷ []) i →
    node_fault (binary (computes a)) (t ∷ ts) (rows_of n (l ∷ r ∷ [])) ≡ Some e
arithmetic_faults a t ts n i l r v w e within before left right faulty is =
    let rows = rows_of n (l ∷ r ∷ []) in
    let here : has_fault a (t ∷ []) (get_or l i null ∷ get_or r i null ∷ []) ≡ true = rw (← left, ← right) faulty in
    let row : get_or rows i [] ≡ v ∷ w ∷ [] = get_or-map-range_with_len (row_at (l ∷ r ∷ [])) 0 n i i [] within (omega arith) ∙ rw (left, right) refl in
    ap (option_map (λ k. row_fault a (get_or rows k []) k))
    (first_row (has_fault a (t ∷ ts)) (row_at (l ∷ r ∷ [])) n i within (λ k h. fault_same a t ts (get_or l k null ∷ get_or r k null ∷ []) ∙ before k h) (fault_same a t ts (get_or l i null ∷ get_or r i null ∷ []) ∙ here))
    ∙ ap (λ vs. Some (row_fault a vs i)) row ∙ ap Some (sym is)

pub arithmetic_quiet : (a : Arithmetic) (t : LogicalType) (ts : List LogicalType) (n : ℕ) (l r : List Datum) → ((k : ℕ) → k < n → has_fault a (t ∷ []) (get_or l k null ∷ get_or r k null ∷ []) ≡ false) →
    node_fault (binary (computes a)) (t ∷ ts) (rows_of n (l ∷ r ∷ [])) ≡ None
arithmetic_quiet a t ts n l r all = ap (option_map (λ k. row_fault a (get_or (rows_of n (l ∷ r ∷ [])) k []) k)) (no_row (has_fault a (t ∷ ts)) (row_at (l ∷ r ∷ [])) n (λ k h. fault_same a t ts (get_or l k null ∷ get_or r k null ∷ []) ∙ all k h))

pub computed_at : (a : Arithmetic) (x v w c d : Datum) → x ≡ computed a v w → v ≡ c → w ≡ d → x ≡ computed a c d
computed_at a x v w c d e f g = e ∙ ap (λ z. computed a z w) f ∙ ap (computed a c) g

pub quiet_at : (a : Arithmetic) (t : LogicalType) (v w c d : Datum) → has_fault a (t ∷ []) (v ∷ w ∷ []) ≡ false → v ≡ c → w ≡ d → has_fault a (t ∷ []) (c ∷ d ∷ []) ≡ false
quiet_at a t v w c d h f g = rw (← f, ← g) h
