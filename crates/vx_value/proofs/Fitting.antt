-- Which values fit a type made from others.
use Rattle.std.proofs.Common.{◌≡◌, List, [], ◌∷◌, length, refl, subst, Bool, true, false, arith}
use Rattle.std.specs.Prelude.{Option, Some, None, if◌then◌else◌, is_some, option_and_then}
use Rattle.std.proofs.lemmas.Bool.{and_parts, and_from, eqb-true, or_left, or_right}
use Rattle.vx_dtype.proofs.Known.{known_first}
use Rattle.vx_dtype.proofs.Unions.{same_atomic-eq}
use Rattle.std.specs.Str.{bytes_eq}
use Rattle.vx_value.specs.Types.{Name, truth, number, floating, decimals, date, timestamp, text, octets, LogicalType, ty, Shape, atomic, list, fixed, struct, Fields, no_field, field, Datum, null, bool, int, float, utf8, bytes, list_of, struct_of, Data, no_datum, datum, with_nullability, is_null_datum}
use Rattle.vx_value.specs.Fits.{fits, each_fits, fields_fit, Fits, EachFits}
use Rattle.vx_dtype.specs.Lists.{forall2_nil, forall2_cons}
use Rattle.vx_value.specs.Joins.{same_base, same_base_fields, join, join_fields, union_all}
use Rattle.vx_value.specs.Fields.{field_type, field_value, project, project_values, put_field, first_unknown, fields_named, data_of}

-- ---- nullability

-- nullability says nothing of a value that isn't null
pub fits-not_null : (v : Datum) (s : Shape) (n m : Bool) → is_null_datum v ≡ false → fits v (ty s n) ≡ fits v (ty s m)
fits-not_null null s n m e = cc
fits-not_null (bool b) (atomic truth) n m e = refl
fits-not_null (int i) (atomic (number p)) n m e = refl
fits-not_null (float x) (atomic (floating f)) n m e = refl
fits-not_null (int i) (atomic (decimals p r)) n m e = refl
fits-not_null (int i) (atomic date) n m e = refl
fits-not_null (int i) (atomic (timestamp u z)) n m e = refl
fits-not_null (utf8 t) (atomic text) n m e = refl
fits-not_null (bytes t) (atomic octets) n m e = refl
fits-not_null (list_of vs) (list t) n m e = refl
fits-not_null (list_of vs) (fixed t k) n m e = refl
fits-not_null (struct_of vs) (struct fs) n m e = refl
fits-not_null _ _ n m e = refl

pub fits-wider : (v : Datum) (s : Shape) (n m : Bool) → (n ≡ true → m ≡ true) → Fits v (ty s n) → Fits v (ty s m)
fits-wider v s n m h e = go (is_null_datum v) refl
  where
    at_null : (v : Datum) → is_null_datum v ≡ true → Fits v (ty s n) → Fits v (ty s m)
    at_null null q e = h e
    at_null _ q e = cc

    go : (b : Bool) → is_null_datum v ≡ b → Fits v (ty s m)
    go true q = at_null v q e
    go false q = let d : fits v (ty s n) ≡ fits v (ty s m) = fits-not_null v s n m q in cc

pub fits-nullable : (v : Datum) (t : LogicalType) → Fits v t → Fits v (with_nullability true t)
fits-nullable v (ty s n) e = fits-wider v s n true (λ _. refl) e

-- ---- the union

mutual
  pub join-fits-left : (v : Datum) (t u : LogicalType) → same_base t u ≡ true → Fits v t → Fits v (join t u)
  join-fits-left null (ty s n) (ty r m) h e = or_left n m e
  join-fits-left (bool b) (ty (atomic truth) n) (ty r m) h e = refl
  join-fits-left (int i) (ty (atomic (number p)) n) (ty r m) h e = e
  join-fits-left (float x) (ty (atomic (floating f)) n) (ty r m) h e = e
  join-fits-left (int i) (ty (atomic (decimals p s)) n) (ty r m) h e = e
  join-fits-left (int i) (ty (atomic date) n) (ty r m) h e = e
  join-fits-left (int i) (ty (atomic (timestamp u z)) n) (ty r m) h e = e
  join-fits-left (utf8 x) (ty (atomic text) n) (ty r m) h e = refl
  join-fits-left (bytes x) (ty (atomic octets) n) (ty r m) h e = refl
  join-fits-left (list_of vs) (ty (list t) n) (ty (list u) m) h e = join-each-left vs t u h e
  join-fits-left (list_of vs) (ty (fixed t k) n) (ty (fixed u l) m) h e =
      let a = and_parts _ _ h in
      let b = and_parts _ _ e in
      and_from _ _ b.0 (join-each-left vs t u a.1 b.1)
  join-fits-left (struct_of vs) (ty (struct fs) n) (ty (struct gs) m) h e = join-fields-left vs fs gs h e
  join-fits-left _ _ _ h e = cc

  join-each-left : (vs : Data) (t u : LogicalType) → same_base t u ≡ true → each_fits vs t ≡ true → each_fits vs (join t u) ≡ true
  join-each-left no_datum t u h e = refl
  join-each-left (datum v vs) t u h e =
      let b = and_parts _ _ e in
      and_from _ _ (join-fits-left v t u h b.0) (join-each-left vs t u h b.1)

  join-fields-left : (vs : Data) (fs gs : Fields) → same_base_fields fs gs ≡ true → fields_fit vs fs ≡ true → fields_fit vs (join_fields fs gs) ≡ true
  join-fields-left no_datum no_field no_field h e = refl
  join-fields-left (datum v vs) (field a t fs) (field b u gs) h e =
      let x = and_parts _ _ h in
      let y = and_parts _ _ x.0 in
      let d = and_parts _ _ e in
      and_from _ _ (join-fits-left v t u y.1 d.0) (join-fields-left vs fs gs x.1 d.1)
  join-fields-left _ _ _ h e = cc

mutual
  pub join-fits-right : (v : Datum) (u t : LogicalType) → same_base t u ≡ true → Fits v u → Fits v (join t u)
  join-fits-right null (ty r m) (ty s n) h e = or_right n m e
  join-fits-right (bool b) (ty (atomic truth) m) (ty (atomic p) n) h e = let x = same_atomic-eq p truth h in rw x refl
  join-fits-right (int i) (ty (atomic (number q)) m) (ty (atomic p) n) h e = let x = same_atomic-eq p (number q) h in rw x e
  join-fits-right (float y) (ty (atomic (floating f)) m) (ty (atomic p) n) h e = let x = same_atomic-eq p (floating f) h in rw x e
  join-fits-right (int i) (ty (atomic (decimals q s)) m) (ty (atomic p) n) h e = let x = same_atomic-eq p (decimals q s) h in rw x e
  join-fits-right (int i) (ty (atomic date) m) (ty (atomic p) n) h e = let x = same_atomic-eq p date h in rw x e
  join-fits-right (int i) (ty (atomic (timestamp u z)) m) (ty (atomic p) n) h e = let x = same_atomic-eq p (timestamp u z) h in rw x e
  join-fits-right (utf8 w) (ty (atomic text) m) (ty (atomic p) n) h e = let x = same_atomic-eq p text h in rw x refl
  join-fits-right (bytes w) (ty (atomic octets) m) (ty (atomic p) n) h e = let x = same_atomic-eq p octets h in rw x refl
  join-fits-right (list_of vs) (ty (list u) m) (ty (list t) n) h e = join-each-right vs t u h e
  join-fits-right (list_of vs) (ty (fixed u l) m) (ty (fixed t k) n) h e =
      let a = and_parts _ _ h in
      let b = and_parts _ _ e in
      let q : k ≡ l = eqb-true k l a.0 in
      and_from _ _ (rw q b.0) (join-each-right vs t u a.1 b.1)
  join-fits-right (struct_of vs) (ty (struct gs) m) (ty (struct fs) n) h e = join-fields-right vs gs fs h e
  join-fits-right _ _ _ h e = cc

  join-each-right : (vs : Data) (t u : LogicalType) → same_base t u ≡ true → each_fits vs u ≡ true → each_fits vs (join t u) ≡ true
  join-each-right no_datum t u h e = refl
  join-each-right (datum v vs) t u h e =
      let b = and_parts _ _ e in
      and_from _ _ (join-fits-right v u t h b.0) (join-each-right vs t u h b.1)

  join-fields-right : (vs : Data) (gs fs : Fields) → same_base_fields fs gs ≡ true → fields_fit vs gs ≡ true → fields_fit vs (join_fields fs gs) ≡ true
  join-fields-right no_datum no_field no_field h e = refl
  join-fields-right (datum v vs) (field b u gs) (field a t fs) h e =
      let x = and_parts _ _ h in
      let y = and_parts _ _ x.0 in
      let d = and_parts _ _ e in
      and_from _ _ (join-fits-right v u t y.1 d.0) (join-fields-right vs gs fs x.1 d.1)
  join-fields-right _ _ _ h e = cc

-- what fits each of these types fits that one
pub data Into : List LogicalType → LogicalType → Type 0 where
  into_none : {w : LogicalType} → Into [] w
  into_more : {t w : LogicalType} {ts : List LogicalType} → ((v : Datum) → Fits v t → Fits v w) → Into ts w → Into (t ∷ ts) w

pub union_all-into : (t : LogicalType) (ts : List LogicalType) (w : LogicalType) → union_all t ts ≡ Some w → Into (t ∷ ts) w
union_all-into t [] w e = let q : t ≡ w = cc in into_more (λ v h. subst (Fits v) q h) into_none
union_all-into t (u ∷ us) w e = go (same_base t u) refl (union_all-into (join t u) us w) e
  where
    more : Into (join t u ∷ us) w → same_base t u ≡ true → Into (t ∷ u ∷ us) w
    more (into_more f rest) s = into_more (λ v h. f v (join-fits-left v t u s h)) (into_more (λ v h. f v (join-fits-right v u t s h)) rest)

    go : (b : Bool) → same_base t u ≡ b → (union_all (join t u) us ≡ Some w → Into (join t u ∷ us) w) → option_and_then (λ x. union_all x us) (if b then Some (join t u) else None) ≡ Some w → Into (t ∷ u ∷ us) w
    go true s k d = more (k d) s
    go false s k d = cc

-- ---- fields

pub field_value-fits : (a : Name) (fs : Fields) (vs : Data) (t : LogicalType) → field_type a fs ≡ Some t → fields_fit vs fs ≡ true → Fits (field_value a fs vs) t
field_value-fits a no_field no_datum t e h = cc
field_value-fits a no_field (datum v vs) t e h = cc
field_value-fits a (field b u fs) no_datum t e h = cc
field_value-fits a (field b u fs) (datum v vs) t e h = let k = and_parts _ _ h in go (bytes_eq a b) e k.0 (λ q. field_value-fits a fs vs t q k.1)
  where
    go : (c : Bool) → (if c then Some u else field_type a fs) ≡ Some t → Fits v u → (field_type a fs ≡ Some t → Fits (field_value a fs vs) t) → Fits (if c then v else field_value a fs vs) t
    go true q f k = let r : u ≡ t = cc in subst (Fits v) r f
    go false q f k = k q

pub project-fits : (names : List Name) (fs : Fields) (vs : Data) → first_unknown names fs ≡ None → fields_fit vs fs ≡ true → fields_fit (project_values names fs vs) (project names fs) ≡ true
project-fits [] fs vs e h = refl
project-fits (a ∷ names) fs vs e h =
    let k = known_first a names fs e in
    go (field_type a fs) refl k.0 (project-fits names fs vs k.1 h)
  where
    go : (o : Option LogicalType) → field_type a fs ≡ o → is_some o ≡ true → fields_fit (project_values names fs vs) (project names fs) ≡ true → fields_fit (datum (field_value a fs vs) (project_values names fs vs)) (put_field a o (project names fs)) ≡ true
    go None q s r = cc
    go (Some t) q s r = and_from _ _ (field_value-fits a fs vs t q h) r

pub pack-fits : (names : List Name) {ts : List LogicalType} {vs : List Datum} → length ts ≡ length names → EachFits vs ts → fields_fit (data_of vs) (fields_named names ts) ≡ true
pack-fits [] e forall2_nil = refl
pack-fits (a ∷ names) {ts = t ∷ ts} e (forall2_cons h k) = let q : length ts ≡ length names = omega arith in and_from _ _ h (pack-fits names q k)
pack-fits [] e (forall2_cons h k) = absurd (omega arith)
pack-fits (a ∷ names) e forall2_nil = absurd (omega arith)
