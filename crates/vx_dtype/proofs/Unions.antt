-- The union of two types is the narrowest type above both.
use Rattle.std.proofs.Common.{◌≡◌, refl, sym, subst, Bool, true, false, ◌||◌}
use Rattle.std.specs.Prelude.{Some, None, IsTrue, IsSome, if◌then◌else◌}
use Rattle.std.proofs.lemmas.Bool.{and_parts, and_from, eqb-true, or_left, or_right}
use Rattle.std.proofs.lemmas.Bool.Decides.{Decides-eqb}
use Rattle.std.proofs.lemmas.Slice.Eq.{bytes_eq-Decides}
use Rattle.vx_dtype.specs.Types.{Atomic, same_atomic, LogicalType, ty, Shape, atomic, list, fixed, struct, Fields, no_field, field}
use Rattle.vx_dtype.specs.Joins.{same_base, same_base_shape, same_base_fields, join, join_shape, join_fields, union, Narrower, narrower, NarrowerShape, same_atomic_shape, narrower_list, narrower_fixed, narrower_struct, NarrowerFields, no_fields, narrower_field}
use Rattle.vx_dtype.specs.Deciding.{same_atomic-Decides}

-- kinds that pass the test are the same
pub same_atomic-eq : (p q : Atomic) → same_atomic p q ≡ true → p ≡ q
same_atomic-eq p q = (same_atomic-Decides p q).0

-- ---- the join is above both

mutual
  pub above-left : (t u : LogicalType) → same_base t u ≡ true → Narrower t (join t u)
  above-left (ty s n) (ty r m) e = narrower (above-shape-left s r e) (or_left n m)

  above-shape-left : (s r : Shape) → same_base_shape s r ≡ true → NarrowerShape s (join_shape s r)
  above-shape-left (atomic p) (atomic q) e = same_atomic_shape
  above-shape-left (list t) (list u) e = narrower_list (above-left t u e)
  above-shape-left (fixed t k) (fixed u l) e = narrower_fixed (above-left t u (and_parts _ _ e).1)
  above-shape-left (struct fs) (struct gs) e = narrower_struct (above-fields-left fs gs e)
  above-shape-left _ _ e = cc

  above-fields-left : (fs gs : Fields) → same_base_fields fs gs ≡ true → NarrowerFields fs (join_fields fs gs)
  above-fields-left no_field no_field e = no_fields
  above-fields-left (field a t fs) (field b u gs) e =
      let x = and_parts _ _ e in
      let y = and_parts _ _ x.0 in
      narrower_field (above-left t u y.1) (above-fields-left fs gs x.1)
  above-fields-left _ _ e = cc

mutual
  pub above-right : (t u : LogicalType) → same_base t u ≡ true → Narrower u (join t u)
  above-right (ty s n) (ty r m) e = narrower (above-shape-right s r e) (or_right n m)

  above-shape-right : (s r : Shape) → same_base_shape s r ≡ true → NarrowerShape r (join_shape s r)
  above-shape-right (atomic p) (atomic q) e = subst (λ k. NarrowerShape (atomic q) (atomic k)) (sym (same_atomic-eq p q e)) same_atomic_shape
  above-shape-right (list t) (list u) e = narrower_list (above-right t u e)
  above-shape-right (fixed t k) (fixed u l) e =
      let x = and_parts _ _ e in
      subst (λ i. NarrowerShape (fixed u l) (fixed (join t u) i)) (sym (eqb-true k l x.0)) (narrower_fixed (above-right t u x.1))
  above-shape-right (struct fs) (struct gs) e = narrower_struct (above-fields-right fs gs e)
  above-shape-right _ _ e = cc

  above-fields-right : (fs gs : Fields) → same_base_fields fs gs ≡ true → NarrowerFields gs (join_fields fs gs)
  above-fields-right no_field no_field e = no_fields
  above-fields-right (field a t fs) (field b u gs) e =
      let x = and_parts _ _ e in
      let y = and_parts _ _ x.0 in
      subst (λ c. NarrowerFields (field b u gs) (field c (join t u) (join_fields fs gs))) (sym ((bytes_eq-Decides a b).0 y.0))
      (narrower_field (above-right t u y.1) (above-fields-right fs gs x.1))
  above-fields-right _ _ e = cc

-- ---- and no wider than it has to be

or_case : (n m q : Bool) → (IsTrue n → IsTrue q) → (IsTrue m → IsTrue q) → IsTrue (n || m) → IsTrue q
or_case true m q f g e = f refl
or_case false m q f g e = g e

mutual
  least : {t u v : LogicalType} → Narrower t v → Narrower u v → Narrower (join t u) v
  least (narrower {n = n} {m = q} s i) (narrower {n = m} r j) = narrower (least-shape s r) (or_case n m q i j)

  least-shape : {s r q : Shape} → NarrowerShape s q → NarrowerShape r q → NarrowerShape (join_shape s r) q
  least-shape same_atomic_shape same_atomic_shape = same_atomic_shape
  least-shape (narrower_list p) (narrower_list q) = narrower_list (least p q)
  least-shape (narrower_fixed p) (narrower_fixed q) = narrower_fixed (least p q)
  least-shape (narrower_struct p) (narrower_struct q) = narrower_struct (least-fields p q)

  least-fields : {fs gs hs : Fields} → NarrowerFields fs hs → NarrowerFields gs hs → NarrowerFields (join_fields fs gs) hs
  least-fields no_fields no_fields = no_fields
  least-fields (narrower_field p ps) (narrower_field q qs) = narrower_field (least p q) (least-fields ps qs)

mutual
  below-same : {t u v : LogicalType} → Narrower t v → Narrower u v → same_base t u ≡ true
  below-same (narrower s i) (narrower r j) = below-same-shape s r

  below-same-shape : {s r q : Shape} → NarrowerShape s q → NarrowerShape r q → same_base_shape s r ≡ true
  below-same-shape (same_atomic_shape {p = p}) same_atomic_shape = (same_atomic-Decides p p).1 refl
  below-same-shape (narrower_list p) (narrower_list q) = below-same p q
  below-same-shape (narrower_fixed {k = k} p) (narrower_fixed q) = and_from _ _ ((Decides-eqb k k).1 refl) (below-same p q)
  below-same-shape (narrower_struct p) (narrower_struct q) = below-same-fields p q

  below-same-fields : {fs gs hs : Fields} → NarrowerFields fs hs → NarrowerFields gs hs → same_base_fields fs gs ≡ true
  below-same-fields no_fields no_fields = refl
  below-same-fields (narrower_field {a = a} p ps) (narrower_field q qs) =
      and_from _ _ (and_from _ _ ((bytes_eq-Decides a a).1 refl) (below-same p q)) (below-same-fields ps qs)

-- ---- the union

abbrev Joined : LogicalType → LogicalType → LogicalType → Type 0
Joined t u w = (same_base t u ≡ true) × (w ≡ join t u)

joined : (t u w : LogicalType) → union t u ≡ Some w → Joined t u w
joined t u w e = go (same_base t u) refl e
  where
    go : (b : Bool) → same_base t u ≡ b → (if b then Some (join t u) else None) ≡ Some w → Joined t u w
    go true same found = (same, cc)
    go false same found = cc

pub union-left : (t u w : LogicalType) → union t u ≡ Some w → Narrower t w
union-left t u w e = let j = joined t u w e in subst (Narrower t) (sym j.1) (above-left t u j.0)

pub union-right : (t u w : LogicalType) → union t u ≡ Some w → Narrower u w
union-right t u w e = let j = joined t u w e in subst (Narrower u) (sym j.1) (above-right t u j.0)

pub union-least : (t u w v : LogicalType) → union t u ≡ Some w → Narrower t v → Narrower u v → Narrower w v
union-least t u w v e p q = subst (λ x. Narrower x v) (sym (joined t u w e).1) (least p q)

pub union-there : (t u v : LogicalType) → Narrower t v → Narrower u v → IsSome (union t u)
union-there t u v p q = rw (below-same p q)
