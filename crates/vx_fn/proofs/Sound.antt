-- A well-typed tree gives a value of its type at each row of a batch on which it doesn't fault.
use Rattle.std.proofs.Common.{IsTrue, ◌&&◌, ◌≡◌, ℕ, zero, suc, inl, inr, ◌+◌, ◌*◌, List, [], ◌∷◌, length, refl, sym, subst, Bool, true, false, ◌||◌, arith, ◌⊎◌}
use Rattle.std.specs.Prelude.{Some, None, if◌then◌else◌, nat_lt, min, ◌^◌, ◌-◌}
use Rattle.std.proofs.lemmas.Bool.Decides.{nat_tests}
use Rattle.std.proofs.lemmas.Bool.{eqb-true, not-false, and_parts, or_cases, or_left, or_right, or_parts}
use Rattle.vx_value.proofs.Fitting.{fits-not_null, fits-wider, fits-nullable, join-fits-left, join-fits-right, Into, into_none, into_more, union_all-into, field_value-fits, project-fits, pack-fits}
use Rattle.vx_dtype.proofs.Known.{first_unknown-filter, first_unknown-own}
use Rattle.vx_dtype.proofs.Unions.{same_atomic-eq}
use Rattle.vx_floats.specs.Floats.{format_of, is_canonical}
use Rattle.vx_floats.specs.declared.float.Float.{Float}
use Rattle.vx_floats.proofs.Once.{result_canonical}
use Rattle.vx_floats.specs.declared.arithmetic.Arithmetic.{Arithmetic}
use Rattle.vx_floats.specs.declared.arithmetic.Arithmetic.TheVariants.{Sum, Difference, Product, Quotient, Remainder}
use Rattle.vx_dtype.specs.declared.float_type.FloatType.{FloatType}
use Rattle.vx_value.specs.Types.{Name, same_float_type, Atomic, truth, number, floating, decimals, text, LogicalType, ty, Shape, atomic, list, struct, Fields, Datum, null, bool, int, float, utf8, list_of, struct_of, Data, no_datum, datum, is_nullable, with_nullability, is_null_datum}
use Rattle.vx_value.specs.Fits.{fits, each_fits, Fits, EachFits}
use Rattle.vx_dtype.specs.Lists.{forall2_nil, forall2_cons}
use Rattle.vx_value.specs.Joins.{same_base, join}
use Rattle.vx_value.specs.Fields.{field_type, field_value, project, first_unknown, field_names}
use Rattle.vx_dtype.specs.declared.dtype.PType.{PType}
use Rattle.vx_dtype.specs.declared.dtype.PType.TheVariants.{I64}
use Rattle.vx_fn.specs.Functions.{Function, get_item, select, fill_null, binary, cast, computes, Comparison, selection_names, included, branches, HasFittingLiteral}
use Rattle.vx_fn.specs.declared.options.FieldSelection.{FieldSelection}
use Rattle.vx_fn.specs.declared.options.FieldSelection.TheVariants.{Include, Exclude}
use Rattle.vx_fn.specs.Rows.{FnType, of_case_else, of_case, of_get_item, of_literal, of_pack, of_select, of_fill_null, of_zip, of_comparison, of_and, of_or, of_arithmetic, of_float_arithmetic, of_decimal_arithmetic, of_not, of_between, of_like, of_is_null, of_is_not_null, of_mask, of_cast, of_starts_with, of_byte_length, of_list_contains}
use Rattle.vx_fn.specs.Values.{is_true, kleene_and, kleene_or, kleene_not, compared, agrees, order, bound_comparison, computed, liked, begun, counted_bytes, has_element, has_null, among, contained, first_true, fn_value}
use Rattle.vx_fn.specs.Faults.{has_fault, misfits, is_fillable, fill_of}

-- the row doesn't make the node fault
abbrev pub IsSafe : Function → List LogicalType → List Datum → Type 0
IsSafe (binary (computes a)) ts vs = has_fault a ts vs ≡ false
IsSafe (cast t) ts vs = misfits t vs ≡ false
IsSafe fill_null ts vs = (is_fillable ts ≡ true) × (is_null_datum (fill_of vs) ≡ false)
IsSafe _ ts vs = Unit {0}

-- ---- truth values

truth_cases : (P : Datum → Type 0) (n : Bool) → (n ≡ true → P null) → ((b : Bool) → P (bool b)) → (v : Datum) → Fits v (ty (atomic truth) n) → P v
truth_cases P n f g null e = f e
truth_cases P n f g (bool b) e = g b
truth_cases P n f g _ e = cc

and-fits : (v w : Datum) (n m : Bool) → Fits v (ty (atomic truth) n) → Fits w (ty (atomic truth) m) → Fits (kleene_and v w) (ty (atomic truth) (n || m))
and-fits null null n m e h = or_left n m e
and-fits null (bool true) n m e h = or_left n m e
and-fits null (bool false) n m e h = refl
and-fits (bool false) w n m e h = refl
and-fits (bool true) null n m e h = or_right n m h
and-fits (bool true) (bool true) n m e h = refl
and-fits (bool true) (bool false) n m e h = refl
and-fits _ _ n m e h = cc

or-fits : (v w : Datum) (n m : Bool) → Fits v (ty (atomic truth) n) → Fits w (ty (atomic truth) m) → Fits (kleene_or v w) (ty (atomic truth) (n || m))
or-fits null null n m e h = or_left n m e
or-fits null (bool false) n m e h = or_left n m e
or-fits null (bool true) n m e h = refl
or-fits (bool true) w n m e h = refl
or-fits (bool false) null n m e h = or_right n m h
or-fits (bool false) (bool true) n m e h = refl
or-fits (bool false) (bool false) n m e h = refl
or-fits _ _ n m e h = cc

not-fits : (v : Datum) (n : Bool) → Fits v (ty (atomic truth) n) → Fits (kleene_not v) (ty (atomic truth) n)
not-fits null n e = e
not-fits (bool b) n e = refl
not-fits _ n e = cc

null_of : (v : Datum) (s : Shape) (n : Bool) → is_null_datum v ≡ true → Fits v (ty s n) → n ≡ true
null_of null s n q e = e
null_of _ s n q e = cc

compared-fits : (c : Comparison) (v w : Datum) (s r : Shape) (n m : Bool) → Fits v (ty s n) → Fits w (ty r m) → Fits (compared c v w) (ty (atomic truth) (n || m))
compared-fits c v w s r n m e h = go (is_null_datum v) (is_null_datum w) (λ q. null_of v s n q e) (λ q. null_of w r m q h)
  where
    go : (a b : Bool) → (a ≡ true → n ≡ true) → (b ≡ true → m ≡ true) → Fits (if a || b then null else bool (agrees c (order v w))) (ty (atomic truth) (n || m))
    go true b f g = or_left n m (f refl)
    go false true f g = or_right n m (g refl)
    go false false f g = refl

like-fits : (neg ci : Bool) (v w : Datum) (n m : Bool) → Fits v (ty (atomic text) n) → Fits w (ty (atomic text) m) → Fits (liked neg ci v w) (ty (atomic truth) (n || m))
like-fits neg ci null w n m e h = or_left n m e
like-fits neg ci (utf8 t) null n m e h = or_right n m h
like-fits neg ci (utf8 t) (utf8 p) n m e h = refl
like-fits neg ci _ _ n m e h = cc

begun-fits : (v w : Datum) (n m : Bool) → Fits v (ty (atomic text) n) → Fits w (ty (atomic text) m) → Fits (begun v w) (ty (atomic truth) (n || m))
begun-fits null w n m e h = or_left n m e
begun-fits (utf8 t) null n m e h = or_right n m h
begun-fits (utf8 t) (utf8 p) n m e h = refl
begun-fits _ _ n m e h = cc

-- a number that is cut off at the greatest of its type
cut_off : (k : ℕ) → nat_lt (min k (2 ^ 63 - 1)) (2 ^ 63) ≡ true
cut_off k = grind (arith, nat_tests)

counted-fits : (v : Datum) (n : Bool) → Fits v (ty (atomic text) n) → Fits (counted_bytes v) (ty (atomic (number I64)) n)
counted-fits null n e = e
counted-fits (utf8 t) n e = cut_off (length t)
counted-fits _ n e = cc

-- ---- lists

-- a list with a null has elements of a type with null
holds_null : (ws : Data) (s : Shape) (k : Bool) → IsTrue (each_fits ws (ty s k)) → has_null ws ≡ true → k ≡ true
holds_null no_datum s k e h = cc
holds_null (datum w ws) s k e h =
    let x = and_parts _ _ e in
    elim (or_cases _ _ h) [ inl q ↦ null_of w s k q x.0 | inr q ↦ holds_null ws s k x.1 q ]

among-fits : (ws : Data) (w : Datum) (s : Shape) (k n m : Bool) → IsTrue (each_fits ws (ty s k)) → Fits (among ws w) (ty (atomic truth) (n || k || m))
among-fits ws w s k n m e = go (has_element ws w) (has_null ws) (holds_null ws s k e)
  where
    go : (a b : Bool) → (b ≡ true → k ≡ true) → Fits (if a then bool true else if b then null else bool false) (ty (atomic truth) (n || k || m))
    go true b f = refl
    go false true f = or_left (n || k) m (or_right n k (f refl))
    go false false f = refl

contained-fits : (v w : Datum) (p q : Atomic) (k n m : Bool) → Fits v (ty (list (ty (atomic p) k)) n) → Fits w (ty (atomic q) m) → Fits (contained v w) (ty (atomic truth) (n || k || m))
contained-fits null w p q k n m e h = or_left (n || k) m (or_left n k e)
contained-fits (list_of ws) w p q k n m e h = go (is_null_datum w) (λ x. null_of w (atomic q) m x h)
  where
    go : (b : Bool) → (b ≡ true → m ≡ true) → Fits (if b then null else among ws w) (ty (atomic truth) (n || k || m))
    go true f = or_right (n || k) m (f refl)
    go false f = among-fits ws w (atomic p) k n m e
contained-fits _ w p q k n m e h = cc

-- ---- arithmetic

whole-fits : (a : Arithmetic) (p q : PType) (v w : Datum) (n m : Bool) → Fits v (ty (atomic (number p)) n) → Fits w (ty (atomic (number q)) m) → has_fault a (ty (atomic (number p)) n ∷ ty (atomic (number q)) m ∷ []) (v ∷ w ∷ []) ≡ false → Fits (computed a v w) (ty (atomic (number p)) (n || m))
whole-fits a p q null w n m e h s = or_left n m e
whole-fits a p q (int i) null n m e h s = or_right n m h
whole-fits a p q (int i) (int j) n m e h s = not-false _ (or_parts _ _ s).1
whole-fits a p q _ _ n m e h s = cc

float_result-of : (a : Arithmetic) (f g : FloatType) (x y : Float) (n : Bool) → IsTrue (same_float_type f g) → IsTrue (same_float_type (format_of x) f && is_canonical x) → IsTrue (same_float_type (format_of y) g && is_canonical y) → Fits (computed a (float x) (float y)) (ty (atomic (floating f)) n)
float_result-of Sum FloatType.F32 FloatType.F32 (Float.F32 x) (Float.F32 y) n s e h = result_canonical Sum (Float.F32 x) (Float.F32 y)
float_result-of Difference FloatType.F32 FloatType.F32 (Float.F32 x) (Float.F32 y) n s e h = result_canonical Difference (Float.F32 x) (Float.F32 y)
float_result-of Product FloatType.F32 FloatType.F32 (Float.F32 x) (Float.F32 y) n s e h = result_canonical Product (Float.F32 x) (Float.F32 y)
float_result-of Quotient FloatType.F32 FloatType.F32 (Float.F32 x) (Float.F32 y) n s e h = result_canonical Quotient (Float.F32 x) (Float.F32 y)
float_result-of Remainder FloatType.F32 FloatType.F32 (Float.F32 x) (Float.F32 y) n s e h = result_canonical Remainder (Float.F32 x) (Float.F32 y)
float_result-of Sum FloatType.F64 FloatType.F64 (Float.F64 x) (Float.F64 y) n s e h = result_canonical Sum (Float.F64 x) (Float.F64 y)
float_result-of Difference FloatType.F64 FloatType.F64 (Float.F64 x) (Float.F64 y) n s e h = result_canonical Difference (Float.F64 x) (Float.F64 y)
float_result-of Product FloatType.F64 FloatType.F64 (Float.F64 x) (Float.F64 y) n s e h = result_canonical Product (Float.F64 x) (Float.F64 y)
float_result-of Quotient FloatType.F64 FloatType.F64 (Float.F64 x) (Float.F64 y) n s e h = result_canonical Quotient (Float.F64 x) (Float.F64 y)
float_result-of Remainder FloatType.F64 FloatType.F64 (Float.F64 x) (Float.F64 y) n s e h = result_canonical Remainder (Float.F64 x) (Float.F64 y)
float_result-of _ _ _ _ _ n s e h = cc

float-fits : (a : Arithmetic) (f g : FloatType) (v w : Datum) (n m : Bool) → IsTrue (same_float_type f g) → Fits v (ty (atomic (floating f)) n) → Fits w (ty (atomic (floating g)) m) → Fits (computed a v w) (ty (atomic (floating f)) (n || m))
float-fits a f g null w n m s e h = or_left n m e
float-fits a f g (float x) null n m s e h = or_right n m h
float-fits a f g (float x) (float y) n m s e h = float_result-of a f g x y (n || m) s e h
float-fits a f g _ _ n m s e h = cc

decimal-fits : (a : Arithmetic) (p c q b : ℕ) (v w : Datum) (n m : Bool) → Fits v (ty (atomic (decimals p c)) n) → Fits w (ty (atomic (decimals q b)) m) → has_fault a (ty (atomic (decimals p c)) n ∷ ty (atomic (decimals q b)) m ∷ []) (v ∷ w ∷ []) ≡ false → Fits (computed a v w) (ty (atomic (decimals p c)) (n || m))
decimal-fits a p c q b null w n m e h s = or_left n m e
decimal-fits a p c q b (int i) null n m e h s = or_right n m h
decimal-fits a p c q b (int i) (int j) n m e h s = not-false _ (or_parts _ _ s).1
decimal-fits a p c q b _ _ n m e h s = cc

-- ---- CASE

-- each second type, and an odd last one
abbrev IsOdd : List LogicalType → Type 0
IsOdd [] = ⊥
IsOdd (t ∷ []) = Unit {0}
IsOdd (t ∷ u ∷ ts) = IsOdd ts

is_odd : (ts : List LogicalType) (k : ℕ) → length ts ≡ 2 * k + 1 → IsOdd ts
is_odd [] k e = omega arith
is_odd (t ∷ []) k e = tt
is_odd (t ∷ u ∷ ts) zero e = absurd (omega arith)
is_odd (t ∷ u ∷ ts) (suc k) e = let q : length ts ≡ 2 * k + 1 = omega arith in is_odd ts k q

cond_either : (b : Bool) (x y : Datum) (w : LogicalType) → Fits x w → Fits y w → Fits (if b then x else y) w
cond_either true x y w p q = p
cond_either false x y w p q = q

first_true-fits : {vs : List Datum} {ts : List LogicalType} {w : LogicalType} → EachFits vs ts → Into (branches ts) w → IsOdd ts ⊎ Fits null w → Fits (first_true vs) w
first_true-fits forall2_nil i (inl o) = elim o [ ]
first_true-fits forall2_nil i (inr h) = h
first_true-fits (forall2_cons e forall2_nil) (into_more f i) o = f _ e
first_true-fits {vs = c ∷ v ∷ vs} {w = w} (forall2_cons d (forall2_cons e a)) (into_more f i) o = cond_either (is_true c) v (first_true vs) w (f v e) (first_true-fits a i o)

pub included-known : (sel : FieldSelection) (fs : Fields) → first_unknown (selection_names sel) fs ≡ None → first_unknown (included sel fs) fs ≡ None
included-known (Include names) fs e = e
included-known (Exclude names) fs e = first_unknown-filter _ (field_names fs) fs (first_unknown-own fs)

into_at : {ts us : List LogicalType} {w : LogicalType} → ts ≡ us → Into us w → Into ts w
into_at {w = w} e i = subst (λ ts. Into ts w) (sym e) i

into_nullable : {ts : List LogicalType} {w : LogicalType} → Into ts w → Into ts (with_nullability true w)
into_nullable into_none = into_none
into_nullable {w = w} (into_more f i) = into_more (λ v h. fits-nullable v w (f v h)) (into_nullable i)

null_fits : (w : LogicalType) → Fits null (with_nullability true w)
null_fits (ty s n) = refl

or_three : (n m k : Bool) → ((m || n) || (n || k)) ≡ true → (n || m || k) ≡ true
or_three true m k e = refl
or_three false true k e = refl
or_three false false k e = e

between-fits : (ls us : Bool) (v l u : Datum) (p q r : Atomic) (n m k : Bool) → Fits v (ty (atomic p) n) → Fits l (ty (atomic q) m) → Fits u (ty (atomic r) k) → Fits (kleene_and (compared (bound_comparison ls) l v) (compared (bound_comparison us) v u)) (ty (atomic truth) (n || m || k))
between-fits ls us v l u p q r n m k e h d =
    fits-wider _ (atomic truth) ((m || n) || (n || k)) (n || m || k) (or_three n m k)
    (and-fits _ _ (m || n) (n || k) (compared-fits (bound_comparison ls) l v _ _ m n h e) (compared-fits (bound_comparison us) v u _ _ n k e d))

-- ---- one node

item-fits : (a : Name) (fs : Fields) (n m : Bool) (s : Shape) (v : Datum) → field_type a fs ≡ Some (ty s m) → Fits v (ty (struct fs) n) → Fits (fn_value (get_item a) (ty (struct fs) n ∷ []) (v ∷ [])) (ty s (m || n))
item-fits a fs n m s null e h = or_right m n h
item-fits a fs n m s (struct_of vs) e h = fits-wider (field_value a fs vs) s m (m || n) (or_left m n) (field_value-fits a fs vs (ty s m) e h)
item-fits a fs n m s _ e h = cc

select-fits : (sel : FieldSelection) (fs : Fields) (n : Bool) (v : Datum) → first_unknown (selection_names sel) fs ≡ None → Fits v (ty (struct fs) n) → Fits (fn_value (select sel) (ty (struct fs) n ∷ []) (v ∷ [])) (ty (struct (project (included sel fs) fs)) n)
select-fits sel fs n null e h = h
select-fits sel fs n (struct_of vs) e h = project-fits (included sel fs) fs vs (included-known sel fs e) h
select-fits sel fs n _ e h = cc

-- what fits a atomic type fits each type that is the same but for nullability
same-atomic-fits : (v : Datum) (t u : LogicalType) → is_fillable (t ∷ u ∷ []) ≡ true → same_base t u ≡ true → is_null_datum v ≡ false → Fits v u → Fits v t
same-atomic-fits v (ty (atomic p) n) (ty (atomic q) m) f s z h =
    let x : Fits v (ty (atomic q) n) = subst (λ b. b ≡ true) (fits-not_null v (atomic q) m n z) h in
    let y : p ≡ q = same_atomic-eq p q s in
    rw y x
same-atomic-fits v _ _ f s z h = cc

fill-fits : (t u : LogicalType) (v w : Datum) → same_base t u ≡ true → IsSafe fill_null (t ∷ u ∷ []) (v ∷ w ∷ []) → Fits v t → Fits w u → Fits (fn_value fill_null (t ∷ u ∷ []) (v ∷ w ∷ [])) (with_nullability (is_nullable u) t)
fill-fits (ty s n) (ty r m) v w q safe e h = go (is_null_datum v) refl
  where
    go : (b : Bool) → is_null_datum v ≡ b → Fits (if b then w else v) (ty s m)
    go true z =
        let x : Fits w (ty s n) = same-atomic-fits w (ty s n) (ty r m) safe.0 q safe.1 h in
        subst (λ b. b ≡ true) (fits-not_null w s n m safe.1) x
    go false z = subst (λ b. b ≡ true) (fits-not_null v s n m z) e

zip-fits : (t u : LogicalType) (b : Bool) (v w : Datum) → same_base t u ≡ true → Fits v t → Fits w u → Fits (if b then v else w) (join t u)
zip-fits t u true v w s e h = join-fits-left v t u s e
zip-fits t u false v w s e h = join-fits-right w u t s h

mask-fits : (t : LogicalType) (b : Bool) (v : Datum) → Fits v t → Fits (if b then v else null) (with_nullability true t)
mask-fits t true v e = fits-nullable v t e
mask-fits t false v e = null_fits t

cast-fits : (u : LogicalType) (v : Datum) → misfits u (v ∷ []) ≡ false → Fits v u
cast-fits u v s = not-false (fits v u) s

pub fn_value-fits : {f : Function} {ts : List LogicalType} {t : LogicalType} {vs : List Datum} → FnType f ts t → HasFittingLiteral f → IsSafe f ts vs → EachFits vs ts → Fits (fn_value f ts vs) t
fn_value-fits (of_case_else {k = k} {ts = ts} l z c b u) lit safe a = first_true-fits a (into_at b (union_all-into _ _ _ u)) (inl (is_odd ts k (eqb-true _ _ l)))
fn_value-fits (of_case {w = w} l z c b u) lit safe a = first_true-fits a (into_at b (into_nullable (union_all-into _ _ _ u))) (inr (null_fits w))
fn_value-fits (of_get_item {a = a} {fs = fs} {s = s} {n = n} {m = m} e) lit safe (forall2_cons {x = v} h forall2_nil) = item-fits a fs n m s v e h
fn_value-fits of_literal lit safe forall2_nil = lit
fn_value-fits (of_pack {names = names} e) lit safe a = pack-fits names (eqb-true _ _ e) a
fn_value-fits (of_select {sel = sel} {fs = fs} {n = n} e) lit safe (forall2_cons {x = v} h forall2_nil) = select-fits sel fs n v e h
fn_value-fits (of_fill_null {t = t} {u = u} s) lit safe (forall2_cons {x = v} e (forall2_cons {x = w} h forall2_nil)) = fill-fits t u v w s safe e h
fn_value-fits (of_zip {t = t} {u = u} s) lit safe (forall2_cons {x = v} e (forall2_cons {x = w} h (forall2_cons {x = m} d forall2_nil))) = zip-fits t u (is_true m) v w s e h
fn_value-fits (of_comparison {c = c} {p = p} {q = q} {n = n} {m = m} s) lit safe (forall2_cons {x = v} e (forall2_cons {x = w} h forall2_nil)) = compared-fits c v w (atomic p) (atomic q) n m e h
fn_value-fits (of_and {n = n} {m = m}) lit safe (forall2_cons {x = v} e (forall2_cons {x = w} h forall2_nil)) = and-fits v w n m e h
fn_value-fits (of_or {n = n} {m = m}) lit safe (forall2_cons {x = v} e (forall2_cons {x = w} h forall2_nil)) = or-fits v w n m e h
fn_value-fits (of_float_arithmetic {a = c} {f = f} {g = g} {n = n} {m = m} s) lit safe (forall2_cons {x = v} e (forall2_cons {x = w} h forall2_nil)) = float-fits c f g v w n m s e h
fn_value-fits (of_decimal_arithmetic {a = c} {p = p} {s = a} {q = q} {r = b} {n = n} {m = m} k s) lit safe (forall2_cons {x = v} e (forall2_cons {x = w} h forall2_nil)) = decimal-fits c p a q b v w n m e h safe
fn_value-fits (of_arithmetic {a = c} {p = p} {q = q} {n = n} {m = m} s) lit safe (forall2_cons {x = v} e (forall2_cons {x = w} h forall2_nil)) = whole-fits c p q v w n m e h safe
fn_value-fits (of_not {n = n}) lit safe (forall2_cons {x = v} e forall2_nil) = not-fits v n e
fn_value-fits (of_between {ls = ls} {us = us} {p = p} {q = q} {r = r} {n = n} {m = m} {k = k} s x) lit safe (forall2_cons {x = v} e (forall2_cons {x = l} h (forall2_cons {x = u} d forall2_nil))) = between-fits ls us v l u p q r n m k e h d
fn_value-fits (of_like {neg = neg} {ci = ci} {n = n} {m = m}) lit safe (forall2_cons {x = v} e (forall2_cons {x = w} h forall2_nil)) = like-fits neg ci v w n m e h
fn_value-fits of_is_null lit safe (forall2_cons e forall2_nil) = refl
fn_value-fits of_is_not_null lit safe (forall2_cons e forall2_nil) = refl
fn_value-fits (of_mask {t = t}) lit safe (forall2_cons {x = v} e (forall2_cons {x = m} h forall2_nil)) = mask-fits t (is_true m) v e
fn_value-fits (of_cast {u = u} s) lit safe (forall2_cons {x = v} e forall2_nil) = cast-fits u v safe
fn_value-fits (of_starts_with {n = n} {m = m}) lit safe (forall2_cons {x = v} e (forall2_cons {x = w} h forall2_nil)) = begun-fits v w n m e h
fn_value-fits (of_byte_length {n = n}) lit safe (forall2_cons {x = v} e forall2_nil) = counted-fits v n e
fn_value-fits (of_list_contains {p = p} {q = q} {k = k} {n = n} {m = m} s) lit safe (forall2_cons {x = v} e (forall2_cons {x = w} h forall2_nil)) = contained-fits v w p q k n m e h
