-- The rules of CASE keep the tree at which they apply.
use Rattle.std.proofs.Common.{◌≡◌, ◌∙◌, List, [], ◌∷◌, refl, sym, subst, Bool, true, false, map}
use Rattle.std.specs.Prelude.{Some, None, if◌then◌else◌, not}
use Rattle.std.specs.List.{list_any}
use Rattle.std.proofs.lemmas.Bool.{or_left, or_right, or_from}
use Rattle.vx_fn.proofs.Fills.{none_differ}
use Rattle.vx_fn.proofs.Rows.{fn_type-found, fn_type-only}
use Rattle.vx_fn.proofs.Monotone.{same_at}
use Rattle.vx_dtype.proofs.Unions.{same_atomic-eq, above-left, above-right}
use Rattle.vx_rewrite_core.proofs.Cases.{case_typed}
use Rattle.vx_rewrite_core.proofs.Children.{second_quiet, third_quiet}
use Rattle.vx_rewrite_core.proofs.Joins.{same_atomic-refl}
use Rattle.vx_value.specs.Types.{Atomic, LogicalType, ty, atomic, Datum, null, is_nullable, with_nullability, is_null_datum}
use Rattle.vx_dtype.specs.Joins.{same_base, join, Narrower, narrower, same_atomic_shape}
use Rattle.vx_fn.specs.Functions.{case_when, is_null, is_not_null, is_atomic}
use Rattle.vx_fn.specs.Rows.{FnType, of_fill_null}
use Rattle.vx_tree.specs.Meaning.{value, values}
use Rattle.vx_tree.specs.Faults.{first_fault}
use Rattle.vx_fn.specs.Faults.{fill_of}
use Rattle.vx_tree.specs.Trees.{BoundTree, node, node_type, WellTyped}
use Rattle.vx_rewrite_core.specs.Keeps.{Keeps}
use Rattle.vx_rewrite_core.specs.Nodes.{one_bound, two_bounds, literal_node}
use Rattle.vx_rewrite_rule_laws.specs.Rules.{fill_node, IsCoalesce, null_first, null_last}

-- the type of a CASE of one pair and an ELSE
pair_type : {p a b u : LogicalType} → FnType (case_when 1 true) (p ∷ a ∷ b ∷ []) u → (same_base a b ≡ true) × (u ≡ join a b)
pair_type {a = a} {b = b} d =
    let k = case_typed d in
    let x = same_at a b [] k.joined k.union in
    let g : Some (join a b) ≡ Some k.joined = x.1 in
    let q : k.joined ≡ join a b = cc in
    (x.0, k.type ∙ q)

null_or : (v : Datum) → v ≡ (if is_null_datum v then null else v)
null_or null = refl
null_or _ = refl

or_null : (v : Datum) → v ≡ (if not (is_null_datum v) then v else null)
or_null null = refl
or_null _ = refl

pub keeps_coalesce_to_null : {b : BoundTree} (x : BoundTree) (t : LogicalType) → IsCoalesce x t null b → WellTyped b → Keeps b x
keeps_coalesce_to_null x t (null_first {u = u} {p = p}) w = record {
  typed_before = w;
  typed_after = w.2.1.1.0;
  scopes = λ s o. o.1.1.0;
  type =
      let k = pair_type (fn_type-found (case_when 1 true) (p ∷ t ∷ node_type x ∷ []) u w.0) in
      subst (Narrower (node_type x)) (sym k.1) (above-right t (node_type x) k.0);
  no_fault = λ s batch o i n. third_quiet u (case_when 1 true) (node p is_null (one_bound x)) (literal_node t null) x batch n;
  meaning = λ s batch o i n v j. null_or (value x v);
}
keeps_coalesce_to_null x t (null_last {u = u} {p = p}) w = record {
  typed_before = w;
  typed_after = w.2.1.0;
  scopes = λ s o. o.1.0;
  type =
      let k = pair_type (fn_type-found (case_when 1 true) (p ∷ node_type x ∷ t ∷ []) u w.0) in
      subst (Narrower (node_type x)) (sym k.1) (above-left (node_type x) t k.0);
  no_fault = λ s batch o i n. second_quiet u (case_when 1 true) (node p is_not_null (one_bound x)) x (one_bound (literal_node t null)) batch n;
  meaning = λ s batch o i n v j. or_null (value x v);
}

-- ---- a fill by a literal

all_filled : (f : Datum → List Datum) (c : Datum) (batch : List Datum) → ((v : Datum) → fill_of (f v) ≡ c) → map fill_of (map f batch) ≡ map (λ v. c) batch
all_filled f c [] e = refl
all_filled f c (v ∷ batch) e = rw (e v, all_filled f c batch e) refl

none_null : (c : Datum) (batch : List Datum) → is_null_datum c ≡ false → list_any is_null_datum (map (λ (v : Datum). c) batch) ≡ false
none_null c [] e = refl
none_null c (v ∷ batch) e = or_from _ _ e (none_null c batch e)

good_fill : (x : BoundTree) (t : LogicalType) (c : Datum) (batch : List Datum) → is_atomic (node_type x) ≡ true → is_null_datum c ≡ false → first_fault x batch ≡ None → first_fault (fill_node x (literal_node t c)) batch ≡ None
good_fill x t c batch p z n =
    let bs = two_bounds x (literal_node t c) in
    let fills : map fill_of (map (values bs) batch) ≡ map (λ v. c) batch = all_filled (values bs) c batch (λ v. refl) in
    rw (n, fills, p, none_null c batch z, none_differ c batch) refl

-- of two types that differ in nullability alone the first is atomic: so is the other, and they are the same shape
same_atomic_types : (P : LogicalType → LogicalType → Type 0) → ((p : Atomic) (n m : Bool) → P (ty (atomic p) n) (ty (atomic p) m)) → (a b : LogicalType) → is_atomic a ≡ true → same_base a b ≡ true → P a b
same_atomic_types P k (ty (atomic p) n) (ty (atomic q) m) e h = subst (λ q. P (ty (atomic p) n) (ty (atomic q) m)) (same_atomic-eq p q h) (k p n m)
same_atomic_types P k _ _ e h = cc

same_atomic_types_right : (P : LogicalType → LogicalType → Type 0) → ((p : Atomic) (n m : Bool) → P (ty (atomic p) n) (ty (atomic p) m)) → (b a : LogicalType) → is_atomic b ≡ true → same_base a b ≡ true → P a b
same_atomic_types_right P k (ty (atomic q) m) (ty (atomic p) n) e h = subst (λ p. P (ty (atomic p) n) (ty (atomic q) m)) (sym (same_atomic-eq p q h)) (k q n m)
same_atomic_types_right P k _ _ e h = cc

-- filling an `a` by a `b`
abbrev FillIsBelow : LogicalType → LogicalType → LogicalType → Type 0
FillIsBelow a b u = (same_base a b ≡ true) × Narrower (with_nullability (is_nullable b) a) u

below_first : (a b : LogicalType) → is_atomic a ≡ true → same_base a b ≡ true → FillIsBelow a b (join a b)
below_first a b e h = same_atomic_types (λ a b. FillIsBelow a b (join a b)) (λ p n m. (same_atomic-refl p, narrower same_atomic_shape (λ i. or_right n m i))) a b e h

below_second : (a b : LogicalType) → is_atomic b ≡ true → same_base a b ≡ true → FillIsBelow b a (join a b)
below_second a b e h = same_atomic_types_right (λ a b. FillIsBelow b a (join a b)) (λ p n m. (same_atomic-refl p, narrower same_atomic_shape (λ i. or_left n m i))) b a e h

pub keeps_coalesce : {b : BoundTree} (x : BoundTree) (t : LogicalType) (c : Datum) → IsCoalesce x t c b → is_null_datum c ≡ false → is_atomic (node_type x) ≡ true → WellTyped b → Keeps b (fill_node x (literal_node t c))
keeps_coalesce x t c (null_first {u = u} {p = p}) z e w =
    let k = pair_type (fn_type-found (case_when 1 true) (p ∷ t ∷ node_type x ∷ []) u w.0) in
    let l = below_second t (node_type x) e k.0 in
    record {
      typed_before = w;
      typed_after = (fn_type-only (of_fill_null {t = node_type x} {u = t} l.0), tt, (w.2.1.1.0, (w.2.1.0, tt)));
      scopes = λ s o. (o.1.1.0, (tt, tt));
      type = subst (Narrower (with_nullability (is_nullable t) (node_type x))) (sym k.1) l.1;
      no_fault = λ s batch o i n. good_fill x t c batch e z (third_quiet u (case_when 1 true) (node p is_null (one_bound x)) (literal_node t c) x batch n);
      meaning = λ s batch o i n v j. refl;
    }
keeps_coalesce x t c (null_last {u = u} {p = p}) z e w =
    let k = pair_type (fn_type-found (case_when 1 true) (p ∷ node_type x ∷ t ∷ []) u w.0) in
    let l = below_first (node_type x) t e k.0 in
    record {
      typed_before = w;
      typed_after = (fn_type-only (of_fill_null {t = node_type x} {u = t} l.0), tt, (w.2.1.0, (w.2.1.1.0, tt)));
      scopes = λ s o. (o.1.0, (tt, tt));
      type = subst (Narrower (with_nullability (is_nullable t) (node_type x))) (sym k.1) l.1;
      no_fault = λ s batch o i n. good_fill x t c batch e z (second_quiet u (case_when 1 true) (node p is_not_null (one_bound x)) x (one_bound (literal_node t c)) batch n);
      meaning = λ s batch o i n v j. turned (is_null_datum (value x v)) c (value x v);
    }
  where
    turned : (b : Bool) (y z : Datum) → (if b then y else z) ≡ (if not b then z else y)
    turned true y z = refl
    turned false y z = refl
