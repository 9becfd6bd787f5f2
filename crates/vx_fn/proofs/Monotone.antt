-- Children of narrower types are typed again, with a narrower type.
use Rattle.std.proofs.Common.{◌≡◌, ℕ, ◌==◌, List, [], ◌∷◌, length, refl, sym, ap, subst, Bool, true, false, ◌&&◌, ◌||◌, arith, ◌∙◌}
use Rattle.std.specs.Prelude.{Option, Some, None, IsTrue, if◌then◌else◌, is_some, option_and_then}
use Rattle.std.specs.List.{list_all}
use Rattle.std.proofs.lemmas.Bool.{and_parts, and_from, or_left, or_right}
use Rattle.std.specs.Str.{bytes_eq}
use Rattle.vx_value.specs.Types.{Name, truth, number, floating, decimals, date, timestamp, text, octets, LogicalType, ty, Shape, atomic, list, fixed, struct, Fields, no_field, field, is_nullable, with_nullability}
use Rattle.vx_value.specs.Joins.{same_base, same_base_shape, same_base_fields, join, join_shape, join_fields, union_all, Narrower, narrower, NarrowerShape, same_atomic_shape, narrower_list, narrower_fixed, narrower_struct, NarrowerFields, no_fields, narrower_field, NarrowerEach}
use Rattle.vx_dtype.specs.Lists.{forall2_nil, forall2_cons}
use Rattle.vx_value.specs.Fields.{field_type, field_names, names_without, project, put_field, first_missing, first_unknown, fields_named}
use Rattle.vx_fn.specs.Functions.{Function, get_item, mask, selection_names, included, conditions, branches, is_truth}
use Rattle.vx_fn.specs.declared.options.FieldSelection.{FieldSelection}
use Rattle.vx_fn.specs.declared.options.FieldSelection.TheVariants.{Include, Exclude}
use Rattle.vx_fn.specs.Rows.{FnType, of_case_else, of_case, of_get_item, of_literal, of_pack, of_select, of_fill_null, of_zip, of_comparison, of_and, of_or, of_arithmetic, of_float_arithmetic, of_decimal_arithmetic, of_not, of_between, of_like, of_is_null, of_is_not_null, of_mask, of_cast, of_starts_with, of_byte_length, of_list_contains}

-- ---- nullability

or_mono : (n n' m m' : Bool) → (IsTrue n' → IsTrue n) → (IsTrue m' → IsTrue m) → IsTrue (n' || m') → IsTrue (n || m)
or_mono n true m m' f g e = or_left n m (f refl)
or_mono n false m m' f g e = or_right n m (g e)

pub nullable-mono : {t u : LogicalType} (n m : Bool) → (IsTrue n → IsTrue m) → Narrower t u → Narrower (with_nullability n t) (with_nullability m u)
nullable-mono n m f (narrower s i) = narrower s f

is_nullable-mono : {t u : LogicalType} → Narrower t u → IsTrue (is_nullable t) → IsTrue (is_nullable u)
is_nullable-mono (narrower s i) = i

-- ---- the same type is narrower

mutual
  pub narrower_refl : (t : LogicalType) → Narrower t t
  narrower_refl (ty s n) = narrower (shape_refl s) (λ e. e)

  pub shape_refl : (s : Shape) → NarrowerShape s s
  shape_refl (atomic p) = same_atomic_shape
  shape_refl (list t) = narrower_list (narrower_refl t)
  shape_refl (fixed t k) = narrower_fixed (narrower_refl t)
  shape_refl (struct fs) = narrower_struct (fields_refl fs)

  pub fields_refl : (fs : Fields) → NarrowerFields fs fs
  fields_refl no_field = no_fields
  fields_refl (field a t fs) = narrower_field (narrower_refl t) (fields_refl fs)

-- ---- unions

abbrev JoinsShape : Shape → Shape → Shape → Shape → Type 0
JoinsShape s' r' s r = (same_base_shape s' r' ≡ true) × NarrowerShape (join_shape s' r') (join_shape s r)

abbrev Joins : LogicalType → LogicalType → LogicalType → LogicalType → Type 0
Joins t' u' t u = (same_base t' u' ≡ true) × Narrower (join t' u') (join t u)

abbrev JoinsFields : Fields → Fields → Fields → Fields → Type 0
JoinsFields t' u' t u = (same_base_fields t' u' ≡ true) × NarrowerFields (join_fields t' u') (join_fields t u)

mutual
  pub join-mono : {t' t u' u : LogicalType} → Narrower t' t → Narrower u' u → same_base t u ≡ true → Joins t' u' t u
  join-mono (narrower {n = n'} {m = n} s i) (narrower {n = m'} {m = m} r j) e =
      let k = join-shape-mono s r e in
      (k.0, narrower k.1 (or_mono n n' m m' i j))

  join-shape-mono : {s' s r' r : Shape} → NarrowerShape s' s → NarrowerShape r' r → same_base_shape s r ≡ true → JoinsShape s' r' s r
  join-shape-mono same_atomic_shape same_atomic_shape e = (e, same_atomic_shape)
  join-shape-mono (narrower_list p) (narrower_list q) e = let k = join-mono p q e in (k.0, narrower_list k.1)
  join-shape-mono (narrower_fixed p) (narrower_fixed q) e =
      let x = and_parts _ _ e in
      let k = join-mono p q x.1 in
      (and_from _ _ x.0 k.0, narrower_fixed k.1)
  join-shape-mono (narrower_struct p) (narrower_struct q) e = let k = join-fields-mono p q e in (k.0, narrower_struct k.1)
  join-shape-mono _ _ e = cc

  join-fields-mono : {fs' fs gs' gs : Fields} → NarrowerFields fs' fs → NarrowerFields gs' gs → same_base_fields fs gs ≡ true → JoinsFields fs' gs' fs gs
  join-fields-mono no_fields no_fields e = (refl, no_fields)
  join-fields-mono (narrower_field p ps) (narrower_field q qs) e =
      let x = and_parts _ _ e in
      let y = and_parts _ _ x.0 in
      let k = join-mono p q y.1 in
      let l = join-fields-mono ps qs x.1 in
      (and_from _ _ (and_from _ _ y.0 k.0) l.0, narrower_field k.1 l.1)
  join-fields-mono _ _ e = cc

abbrev UnionAll : LogicalType → List LogicalType → LogicalType → Type 0
UnionAll t ts w = (w' : LogicalType) × (union_all t ts ≡ Some w') × Narrower w' w

pub same_at : (t u : LogicalType) (us : List LogicalType) (w : LogicalType) → union_all t (u ∷ us) ≡ Some w → (same_base t u ≡ true) × (union_all (join t u) us ≡ Some w)
same_at t u us w e = go (same_base t u) refl e
  where
    go : (b : Bool) → same_base t u ≡ b → option_and_then (λ x. union_all x us) (if b then Some (join t u) else None) ≡ Some w → (same_base t u ≡ true) × (union_all (join t u) us ≡ Some w)
    go true q e = (q, e)
    go false q e = cc

union_all-mono : {t' t : LogicalType} {us' us : List LogicalType} (w : LogicalType) → Narrower t' t → NarrowerEach us' us → union_all t us ≡ Some w → UnionAll t' us' w
union_all-mono {t' = t'} {t = t} w p forall2_nil e = let q : t ≡ w = cc in (t', refl, subst (Narrower t') q p)
union_all-mono {t' = t'} {t = t} w p (forall2_cons {x = u'} {y = u} {xs = us'} {ys = us} q qs) e =
    let x = same_at t u us w e in
    let k = join-mono p q x.0 in
    let r = union_all-mono w k.1 qs x.1 in
    let y : same_base t' u' ≡ true = k.0 in
    (r.0, rw y r.1, r.2)

branches-mono : {ts us : List LogicalType} → NarrowerEach ts us → NarrowerEach (branches ts) (branches us)
branches-mono forall2_nil = forall2_nil
branches-mono (forall2_cons p forall2_nil) = forall2_cons p forall2_nil
branches-mono (forall2_cons p (forall2_cons q r)) = forall2_cons q (branches-mono r)

truth-mono : {t u : LogicalType} → Narrower t u → is_truth u ≡ true → is_truth t ≡ true
truth-mono (narrower (same_atomic_shape {p = truth}) i) e = refl
truth-mono (narrower (same_atomic_shape {p = number p}) i) e = cc
truth-mono (narrower (same_atomic_shape {p = floating f}) i) e = cc
truth-mono (narrower (same_atomic_shape {p = decimals p s}) i) e = cc
truth-mono (narrower (same_atomic_shape {p = date}) i) e = cc
truth-mono (narrower (same_atomic_shape {p = timestamp u z}) i) e = cc
truth-mono (narrower (same_atomic_shape {p = text}) i) e = cc
truth-mono (narrower (same_atomic_shape {p = octets}) i) e = cc
truth-mono (narrower (narrower_list p) i) e = cc
truth-mono (narrower (narrower_fixed p) i) e = cc
truth-mono (narrower (narrower_struct p) i) e = cc

conditions-mono : {ts us : List LogicalType} → NarrowerEach ts us → list_all is_truth (conditions us) ≡ true → list_all is_truth (conditions ts) ≡ true
conditions-mono forall2_nil e = refl
conditions-mono (forall2_cons p forall2_nil) e = refl
conditions-mono (forall2_cons p (forall2_cons q r)) e = let x = and_parts _ _ e in and_from _ _ (truth-mono p x.0) (conditions-mono r x.1)

length-mono : {ts us : List LogicalType} → NarrowerEach ts us → length ts ≡ length us
length-mono forall2_nil = refl
length-mono (forall2_cons p q) = ap Rattle.std.proofs.Common.suc (length-mono q)

-- ---- fields

abbrev FieldAt : Name → Fields → LogicalType → Type 0
FieldAt a fs t = (t' : LogicalType) × (field_type a fs ≡ Some t') × Narrower t' t

field_type-mono : {fs gs : Fields} (a : Name) (t : LogicalType) → NarrowerFields fs gs → field_type a gs ≡ Some t → FieldAt a fs t
field_type-mono a t no_fields e = cc
field_type-mono a t (narrower_field {a = b} {t = u'} {u = u} {fs = fs} {gs = gs} p q) e = go (bytes_eq a b) e (λ h. field_type-mono a t q h)
  where
    go : (c : Bool) → (if c then Some u else field_type a gs) ≡ Some t → (field_type a gs ≡ Some t → FieldAt a fs t) → (t' : LogicalType) × ((if c then Some u' else field_type a fs) ≡ Some t') × Narrower t' t
    go true h k = let x : u ≡ t = cc in (u', refl, subst (Narrower u') x p)
    go false h k = k h

known-mono : {fs gs : Fields} (a : Name) → NarrowerFields fs gs → is_some (field_type a fs) ≡ is_some (field_type a gs)
known-mono a no_fields = refl
known-mono a (narrower_field {a = b} {t = t} {u = u} {fs = fs} {gs = gs} p q) = go (bytes_eq a b) (known-mono a q)
  where
    go : (c : Bool) → is_some (field_type a fs) ≡ is_some (field_type a gs) → is_some (if c then Some t else field_type a fs) ≡ is_some (if c then Some u else field_type a gs)
    go true h = refl
    go false h = h

pub field_names-mono : {fs gs : Fields} → NarrowerFields fs gs → field_names fs ≡ field_names gs
field_names-mono no_fields = refl
field_names-mono (narrower_field {a = a} p q) = ap (λ names. a ∷ names) (field_names-mono q)

first_unknown-mono : {fs gs : Fields} (names : List Name) → NarrowerFields fs gs → first_unknown names fs ≡ first_unknown names gs
first_unknown-mono names q = ap (λ own. first_missing own names) (field_names-mono q)

pub included-mono : {fs gs : Fields} (sel : FieldSelection) → NarrowerFields fs gs → included sel fs ≡ included sel gs
included-mono (Include names) q = refl
included-mono (Exclude names) q = ap (names_without names) (field_names-mono q)

put-mono : {fs gs : Fields} (a : Name) (o p : Option LogicalType) → is_some o ≡ is_some p → ((t : LogicalType) → p ≡ Some t → (t' : LogicalType) × (o ≡ Some t') × Narrower t' t) → NarrowerFields fs gs → NarrowerFields (put_field a o fs) (put_field a p gs)
put-mono a None None e k q = q
put-mono a (Some t) None e k q = cc
put-mono a None (Some t) e k q = cc
put-mono {fs = fs} {gs = gs} a (Some t) (Some u) e k q =
    let x = k u refl in
    let y : x.0 ≡ t = cc in
    narrower_field (subst (λ t. Narrower t u) y x.2) q

project-mono : {fs gs : Fields} (names : List Name) → NarrowerFields fs gs → NarrowerFields (project names fs) (project names gs)
project-mono [] q = no_fields
project-mono {fs = fs} {gs = gs} (a ∷ names) q = put-mono a (field_type a fs) (field_type a gs) (known-mono a q) (λ t e. field_type-mono a t q e) (project-mono names q)

pub fields_named-mono : {ts us : List LogicalType} (names : List Name) → NarrowerEach ts us → NarrowerFields (fields_named names ts) (fields_named names us)
fields_named-mono [] q = no_fields
fields_named-mono (a ∷ names) forall2_nil = no_fields
fields_named-mono (a ∷ names) (forall2_cons p q) = narrower_field p (fields_named-mono names q)

-- ---- the rows

abbrev Cons : List LogicalType → LogicalType → List LogicalType → Type 0
Cons ts u us = (t : LogicalType) × (ts' : List LogicalType) × (ts ≡ t ∷ ts') × Narrower t u × NarrowerEach ts' us

cons-mono : {ts us : List LogicalType} (v : LogicalType) (vs : List LogicalType) → NarrowerEach ts us → us ≡ v ∷ vs → Cons ts v vs
cons-mono v vs forall2_nil e = cc
cons-mono v vs (forall2_cons {x = t} {y = u} {xs = ts} {ys = us} p q) e =
    let x : u ≡ v = cc in
    let y : us ≡ vs = cc in
    (t, ts, refl, subst (Narrower t) x p, subst (NarrowerEach ts) y q)

count-mono : {ts us : List LogicalType} (n : ℕ) → NarrowerEach ts us → (length us == n) ≡ true → (length ts == n) ≡ true
count-mono n q e = rw (length-mono q) e

abbrev CaseAgain : List LogicalType → LogicalType → Type 0
CaseAgain ts w = (t : LogicalType) × (ts' : List LogicalType) × (w' : LogicalType) × (branches ts ≡ t ∷ ts') × (union_all t ts' ≡ Some w') × Narrower w' w

case-mono : {ts us : List LogicalType} (v : LogicalType) (vs : List LogicalType) (w : LogicalType) → NarrowerEach ts us → branches us ≡ v ∷ vs → union_all v vs ≡ Some w → CaseAgain ts w
case-mono v vs w q b u =
    let x = cons-mono v vs (branches-mono q) b in
    let y = union_all-mono w x.3 x.4 u in
    (x.0, x.1, y.0, x.2, y.1, y.2)

abbrev pub TypesAgain : Function → List LogicalType → LogicalType → Type 0
TypesAgain f ts t = (t' : LogicalType) × FnType f ts t' × Narrower t' t

item-mono : (a : Name) (fs : Fields) (s : Shape) (n' n m : Bool) → (IsTrue n' → IsTrue n) → FieldAt a fs (ty s m) → TypesAgain (get_item a) (ty (struct fs) n' ∷ []) (ty s (m || n))
item-mono a fs s n' n m i (ty r m', e, narrower p j) = (ty r (m' || n'), of_get_item e, narrower p (or_mono m m' n n' j i))

mask-mono : {u : LogicalType} (t : LogicalType) (n : Bool) → (IsTrue n → IsTrue false) → Narrower t u → TypesAgain mask (t ∷ ty (atomic truth) n ∷ []) (with_nullability true u)
mask-mono t false i p = (with_nullability true t, of_mask, nullable-mono true true (λ e. e) p)
mask-mono t true i p = let e : false ≡ true = i refl in cc

pub fn_type-mono : {f : Function} {ts us : List LogicalType} {t : LogicalType} → FnType f us t → NarrowerEach ts us → TypesAgain f ts t
fn_type-mono (of_case_else {k = k} {us = vs} {u = v} {w = w} l z c b u) q =
    let x = case-mono v vs w q b u in
    (x.2, of_case_else (count-mono _ q l) z (conditions-mono q c) x.3 x.4, x.5)
fn_type-mono (of_case {k = k} {us = vs} {u = v} {w = w} l z c b u) q =
    let x = case-mono v vs w q b u in
    (with_nullability true x.2, of_case (count-mono _ q l) z (conditions-mono q c) x.3 x.4, nullable-mono true true (λ e. e) x.5)
fn_type-mono (of_get_item {a = a} {s = s} {n = n} {m = m} e) (forall2_cons (narrower {n = n'} (narrower_struct {fs = fs} p) i) forall2_nil) = item-mono a fs s n' n m i (field_type-mono a (ty s m) p e)
fn_type-mono (of_literal {t = t}) forall2_nil = (t, of_literal, narrower_refl t)
fn_type-mono {ts = ts} (of_pack {names = names} {n = n} e) q = (ty (struct (fields_named names ts)) n, of_pack (count-mono _ q e), narrower (narrower_struct (fields_named-mono names q)) (λ e. e))
fn_type-mono (of_select {sel = sel} {fs = gs} {n = n} e) (forall2_cons (narrower {n = n'} (narrower_struct {fs = fs} p) i) forall2_nil) =
    let k : first_unknown (selection_names sel) fs ≡ None = first_unknown-mono (selection_names sel) p ∙ e in
    (ty (struct (project (included sel fs) fs)) n', of_select k, narrower (narrower_struct (subst (λ names. NarrowerFields (project (included sel fs) fs) (project names gs)) (included-mono sel p) (project-mono (included sel fs) p))) i)
fn_type-mono (of_fill_null s) (forall2_cons p (forall2_cons q forall2_nil)) = (_, of_fill_null (join-mono p q s).0, nullable-mono _ _ (is_nullable-mono q) p)
fn_type-mono (of_zip s) (forall2_cons p (forall2_cons q (forall2_cons (narrower same_atomic_shape i) forall2_nil))) = let k = join-mono p q s in (_, of_zip k.0, k.1)
fn_type-mono (of_comparison s) (forall2_cons (narrower same_atomic_shape i) (forall2_cons (narrower same_atomic_shape j) forall2_nil)) = (_, of_comparison s, narrower same_atomic_shape (or_mono _ _ _ _ i j))
fn_type-mono of_and (forall2_cons (narrower same_atomic_shape i) (forall2_cons (narrower same_atomic_shape j) forall2_nil)) = (_, of_and, narrower same_atomic_shape (or_mono _ _ _ _ i j))
fn_type-mono of_or (forall2_cons (narrower same_atomic_shape i) (forall2_cons (narrower same_atomic_shape j) forall2_nil)) = (_, of_or, narrower same_atomic_shape (or_mono _ _ _ _ i j))
fn_type-mono (of_float_arithmetic s) (forall2_cons (narrower same_atomic_shape i) (forall2_cons (narrower same_atomic_shape j) forall2_nil)) = (_, of_float_arithmetic s, narrower same_atomic_shape (or_mono _ _ _ _ i j))
fn_type-mono (of_decimal_arithmetic k s) (forall2_cons (narrower same_atomic_shape i) (forall2_cons (narrower same_atomic_shape j) forall2_nil)) = (_, of_decimal_arithmetic k s, narrower same_atomic_shape (or_mono _ _ _ _ i j))
fn_type-mono (of_arithmetic s) (forall2_cons (narrower same_atomic_shape i) (forall2_cons (narrower same_atomic_shape j) forall2_nil)) = (_, of_arithmetic s, narrower same_atomic_shape (or_mono _ _ _ _ i j))
fn_type-mono of_not (forall2_cons (narrower same_atomic_shape i) forall2_nil) = (_, of_not, narrower same_atomic_shape i)
fn_type-mono (of_between s r) (forall2_cons (narrower same_atomic_shape i) (forall2_cons (narrower same_atomic_shape j) (forall2_cons (narrower same_atomic_shape k) forall2_nil))) = (_, of_between s r, narrower same_atomic_shape (or_mono _ _ _ _ (or_mono _ _ _ _ i j) k))
fn_type-mono of_like (forall2_cons (narrower same_atomic_shape i) (forall2_cons (narrower same_atomic_shape j) forall2_nil)) = (_, of_like, narrower same_atomic_shape (or_mono _ _ _ _ i j))
fn_type-mono of_is_null (forall2_cons p forall2_nil) = (_, of_is_null, narrower_refl _)
fn_type-mono of_is_not_null (forall2_cons p forall2_nil) = (_, of_is_not_null, narrower_refl _)
fn_type-mono of_mask (forall2_cons {x = t} p (forall2_cons (narrower {n = n} same_atomic_shape i) forall2_nil)) = mask-mono t n i p
fn_type-mono (of_cast {u = u} s) (forall2_cons p forall2_nil) = (u, of_cast (join-mono p (narrower_refl u) s).0, narrower_refl u)
fn_type-mono of_starts_with (forall2_cons (narrower same_atomic_shape i) (forall2_cons (narrower same_atomic_shape j) forall2_nil)) = (_, of_starts_with, narrower same_atomic_shape (or_mono _ _ _ _ i j))
fn_type-mono of_byte_length (forall2_cons (narrower same_atomic_shape i) forall2_nil) = (_, of_byte_length, narrower same_atomic_shape i)
fn_type-mono (of_list_contains s) (forall2_cons (narrower (narrower_list (narrower same_atomic_shape j)) i) (forall2_cons (narrower same_atomic_shape l) forall2_nil)) = (_, of_list_contains s, narrower same_atomic_shape (or_mono _ _ _ _ (or_mono _ _ _ _ i j) l))
