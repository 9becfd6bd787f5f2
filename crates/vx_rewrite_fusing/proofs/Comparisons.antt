-- A range comparison compares, and two of one item are one Between.
use Rattle.std.proofs.Common.{◌≡◌, List, [], ◌∷◌, refl, sym, subst, ap, ◌∙◌, Bool, true, false, ◌||◌, ◌&&◌, ◌+◌, ◌≤◌, arith}
use Rattle.std.specs.Prelude.{Some, None, Ok, if◌then◌else◌}
use Rattle.std.proofs.Math.Bool.{or_comm}
use Rattle.vx_value.specs.Types.{Atomic, LogicalType, ty, atomic, Datum, is_nullable}
use Rattle.vx_fn.specs.Functions.{binary, compares, between, Comparison, greater, greater_or_equal, less, less_or_equal, truth_type, fn_type, mirrored}
use Rattle.vx_fn.specs.Rows.{FnType, of_comparison, of_between}
use Rattle.vx_tree.specs.Meaning.{value}
use Rattle.vx_fn.specs.Values.{compared, bound_comparison}
use Rattle.vx_tree.specs.Faults.{HasNoFault}
use Rattle.vx_tree.specs.Trees.{BoundTree, node, bound, no_bound, node_type, WellTyped, Over}
use Rattle.vx_rewrite_fusing.specs.Conjuncts.{two_bounds, and_of, is_item, is_constant, Range, from_below, from_above, range, range_of, between_node, MergeTo, below_and_above, above_and_below, Fused}
use Rattle.vx_fn.proofs.Rows.{fn_type-found, fn_type-only}
use Rattle.vx_dtype.proofs.Unions.{same_atomic-eq}
use Rattle.vx_dtype.specs.Deciding.{same_atomic-Decides}
use Rattle.vx_tree.proofs.Trees.{or_none}
use Rattle.vx_rewrite_fusing.specs.Merging.{KeepsAlike}
use Rattle.vx_rewrite_fusing.specs.Laws.{and_count}
use Rattle.vx_fn.proofs.Kleene.{compared-turned}
use Rattle.vx_rewrite_fusing.proofs.Ands.{and_exchange, and_parts_of, and_quiet, alike, alike_trans}

-- ---- what a range comparison is

-- x is compared with y, on the left or on the right
data IsCompare (k : Comparison) (x y : BoundTree) : BoundTree → Type 0 where
  as_is : {t : LogicalType} → IsCompare k x y (node t (binary (compares k)) (two_bounds x y))
  turned : {t : LogicalType} {j : Comparison} → mirrored j ≡ k → IsCompare k x y (node t (binary (compares j)) (two_bounds y x))

abbrev Says : BoundTree → Range → Type 0
Says c (from_below strict x y) = IsCompare (if strict then greater else greater_or_equal) x y c
Says c (from_above strict x y) = IsCompare (bound_comparison strict) x y c

range-as_is : (c : Comparison) (t : LogicalType) (x y : BoundTree) (r : Range) → range c x y ≡ Some r → Says (node t (binary (compares c)) (two_bounds x y)) r
range-as_is greater t x y r e = let q : from_below true x y ≡ r = cc in subst (Says (node t (binary (compares greater)) (two_bounds x y))) q as_is
range-as_is greater_or_equal t x y r e = let q : from_below false x y ≡ r = cc in subst (Says (node t (binary (compares greater_or_equal)) (two_bounds x y))) q as_is
range-as_is less t x y r e = let q : from_above true x y ≡ r = cc in subst (Says (node t (binary (compares less)) (two_bounds x y))) q as_is
range-as_is less_or_equal t x y r e = let q : from_above false x y ≡ r = cc in subst (Says (node t (binary (compares less_or_equal)) (two_bounds x y))) q as_is
range-as_is _ t x y r e = cc

range-turned : (c : Comparison) (t : LogicalType) (x y : BoundTree) (r : Range) → range (mirrored c) x y ≡ Some r → Says (node t (binary (compares c)) (two_bounds y x)) r
range-turned less t x y r e = let q : from_below true x y ≡ r = cc in subst (Says (node t (binary (compares less)) (two_bounds y x))) q (turned refl)
range-turned less_or_equal t x y r e = let q : from_below false x y ≡ r = cc in subst (Says (node t (binary (compares less_or_equal)) (two_bounds y x))) q (turned refl)
range-turned greater t x y r e = let q : from_above true x y ≡ r = cc in subst (Says (node t (binary (compares greater)) (two_bounds y x))) q (turned refl)
range-turned greater_or_equal t x y r e = let q : from_above false x y ≡ r = cc in subst (Says (node t (binary (compares greater_or_equal)) (two_bounds y x))) q (turned refl)
range-turned _ t x y r e = cc

range-says : (c : BoundTree) (r : Range) → range_of c ≡ Some r → Says c r
range-says (node t (binary (compares c)) (bound x (bound y no_bound))) r e = go (is_item x && is_constant y) (is_constant x && is_item y) e
  where
    go : (a b : Bool) → (if a then range c x y else if b then range (mirrored c) y x else None) ≡ Some r → Says (node t (binary (compares c)) (two_bounds x y)) r
    go true b h = range-as_is c t x y r h
    go false true h = range-turned c t y x r h
    go false false h = cc
range-says _ r e = cc

-- ---- its type, scopes, faults and value

comparison_types : {c : Comparison} {a b t : LogicalType} → FnType (binary (compares c)) (a ∷ b ∷ []) t → (p : Atomic) × (a ≡ ty (atomic p) (is_nullable a)) × (b ≡ ty (atomic p) (is_nullable b)) × (t ≡ truth_type (is_nullable a || is_nullable b))
comparison_types (of_comparison {p = p} {q = q} {m = m} s) = let e : p ≡ q = same_atomic-eq p q s in (p, refl, ap (λ x. ty (atomic x) m) (sym e), refl)

record Compared (x y c : BoundTree) : Type 0 where
  item : WellTyped x
  literal : WellTyped y
  kind : Atomic
  item_type : node_type x ≡ ty (atomic kind) (is_nullable (node_type x))
  literal_type : node_type y ≡ ty (atomic kind) (is_nullable (node_type y))
  nullable : is_nullable (node_type c) ≡ (is_nullable (node_type x) || is_nullable (node_type y))

compare_types : {k : Comparison} {x y c : BoundTree} → IsCompare k x y c → WellTyped c → Compared x y c
compare_types {k = k} {x = x} {y = y} (as_is {t = t}) w =
    let f = comparison_types (fn_type-found (binary (compares k)) (node_type x ∷ node_type y ∷ []) t w.0) in
    record { item = w.2.0; literal = w.2.1.0; kind = f.0; item_type = f.1; literal_type = f.2; nullable = ap is_nullable f.3 }
compare_types {x = x} {y = y} (turned {t = t} {j = j} e) w =
    let f = comparison_types (fn_type-found (binary (compares j)) (node_type y ∷ node_type x ∷ []) t w.0) in
    record { item = w.2.1.0; literal = w.2.0; kind = f.0; item_type = f.2; literal_type = f.1; nullable = ap is_nullable f.3 ∙ or_comm (is_nullable (node_type y)) (is_nullable (node_type x)) }

compare_scopes : {k : Comparison} {x y c : BoundTree} → IsCompare k x y c → (s : LogicalType) → Over c s → Over x s × Over y s
compare_scopes as_is s o = (o.0, o.1.0)
compare_scopes (turned e) s o = (o.1.0, o.0)

compare_quiet : {k : Comparison} {x y c : BoundTree} → IsCompare k x y c → (batch : List Datum) → HasNoFault c batch → HasNoFault x batch × HasNoFault y batch
compare_quiet as_is batch n = let a = or_none _ _ n in let b = or_none _ _ a.0 in let c = or_none _ _ b.1 in (b.0, c.0)
compare_quiet (turned e) batch n = let a = or_none _ _ n in let b = or_none _ _ a.0 in let c = or_none _ _ b.1 in (c.0, b.0)

compare_fused : {k : Comparison} {x y c : BoundTree} → IsCompare k x y c → Fused c → Fused x × Fused y
compare_fused as_is f = (f.1.0, f.1.1.0)
compare_fused (turned e) f = (f.1.1.0, f.1.0)

compare_value : {k : Comparison} {x y c : BoundTree} → IsCompare k x y c → (v : Datum) → value c v ≡ compared k (value x v) (value y v)
compare_value as_is v = refl
compare_value {x = x} {y = y} (turned {j = j} e) v = compared-turned j (value y v) (value x v) ∙ ap (λ k. compared k (value x v) (value y v)) e

-- that x is above y says that y is below x
above_value : (strict : Bool) (v w : Datum) → compared (if strict then greater else greater_or_equal) v w ≡ compared (bound_comparison strict) w v
above_value true v w = compared-turned greater v w
above_value false v w = compared-turned greater_or_equal v w

-- ---- the Between

between_typed : (ls us : Bool) (x y z : BoundTree) (p : Atomic) → WellTyped x → WellTyped y → WellTyped z
    → node_type x ≡ ty (atomic p) (is_nullable (node_type x)) → node_type y ≡ ty (atomic p) (is_nullable (node_type y)) → node_type z ≡ ty (atomic p) (is_nullable (node_type z))
    → WellTyped (between_node ls us x y z)
between_typed ls us x y z p wx wy wz ex ey ez = (again (node_type x) (node_type y) (node_type z) ex ey ez, tt, (wx, (wy, (wz, tt))))
  where
    again : (a b c : LogicalType) → a ≡ ty (atomic p) (is_nullable a) → b ≡ ty (atomic p) (is_nullable b) → c ≡ ty (atomic p) (is_nullable c)
        → fn_type (between ls us) (a ∷ b ∷ c ∷ []) ≡ Ok (truth_type (is_nullable a || is_nullable b || is_nullable c))
    again a b c e f g = rw (e, f, g) (fn_type-only (of_between {ls = ls} {us = us} {p = p} {q = p} {r = p} {n = is_nullable a} {m = is_nullable b} {k = is_nullable c} ((same_atomic-Decides p p).1 refl) ((same_atomic-Decides p p).1 refl)))

same_kind : (t : LogicalType) (p q : Atomic) (n m : Bool) → t ≡ ty (atomic p) n → t ≡ ty (atomic q) m → q ≡ p
same_kind t p q n m e f = let g : ty (atomic p) n ≡ ty (atomic q) m = sym e ∙ f in cc

or_three : (x y z : Bool) → (x || y || z) ≡ ((x || y) || (x || z))
or_three true y z = refl
or_three false y z = refl

quiet_three : (t : LogicalType) (ls us : Bool) (x y z : BoundTree) (batch : List Datum) → HasNoFault x batch → HasNoFault y batch → HasNoFault z batch → HasNoFault (between_node ls us x y z) batch
quiet_three t ls us x y z batch n m k = rw (n, m, k) refl

module _ (c d x y z : BoundTree) (ls us : Bool) (low : IsCompare (if ls then greater else greater_or_equal) x y c) (high : IsCompare (bound_comparison us) x z d) where
  low_first : WellTyped (and_of c d) → KeepsAlike (and_of c d) (between_node ls us x y z)
  low_first w =
      let parts = and_parts_of (node_type (and_of c d)) c d w in
      let p = compare_types low parts.left in
      let q = compare_types high parts.right in
      let same : q.kind ≡ p.kind = same_kind (node_type x) p.kind q.kind (is_nullable (node_type x)) (is_nullable (node_type x)) p.item_type q.item_type in
      alike (and_of c d) (between_node ls us x y z) w
      (between_typed ls us x y z p.kind p.item p.literal q.literal p.item_type p.literal_type (subst (λ k. node_type z ≡ ty (atomic k) (is_nullable (node_type z))) same q.literal_type))
      (ap truth_type (rw (p.nullable, q.nullable) (or_three (is_nullable (node_type x)) (is_nullable (node_type y)) (is_nullable (node_type z)))))
      (λ s o. let a = compare_scopes low s o.0 in let b = compare_scopes high s o.1.0 in (a.0, (a.1, (b.1, tt))))
      (λ batch n.
      let a = and_quiet (node_type (and_of c d)) c d batch n in
      let k = compare_quiet low batch a.0 in
      let l = compare_quiet high batch a.1 in
      quiet_three (node_type c) ls us x y z batch k.0 k.1 l.1)
      (λ v. rw (compare_value low v, above_value ls (value x v) (value y v), compare_value high v) refl)

pub merged_alike : {c d m : BoundTree} → MergeTo c d m → WellTyped (and_of c d) → KeepsAlike (and_of c d) m
merged_alike (below_and_above {c = c} {d = d} {x = x} {y = y} {z = z} {ls = ls} {us = us} e f) w = low_first c d x y z ls us (range-says c (from_below ls x y) e) (range-says d (from_above us x z) f) w
merged_alike (above_and_below {c = c} {d = d} {x = x} {y = y} {z = z} {ls = ls} {us = us} e f) w =
    let exchanged = and_exchange _ c d w in
    alike_trans exchanged (low_first d c x y z ls us (range-says d (from_below ls x y) f) (range-says c (from_above us x z) e) exchanged.0.typed_after)

-- the parts of the Between are those of the two
pub merged_parts : {c d m : BoundTree} → MergeTo c d m → Fused c → Fused d → (x y z : BoundTree) × (ls us : Bool) × (m ≡ between_node ls us x y z) × Fused x × Fused y × Fused z
merged_parts (below_and_above {c = c} {d = d} {x = x} {y = y} {z = z} {ls = ls} {us = us} e f) p q =
    let a = compare_fused (range-says c (from_below ls x y) e) p in
    let b = compare_fused (range-says d (from_above us x z) f) q in
    (x, y, z, ls, us, refl, a.0, a.1, b.1)
merged_parts (above_and_below {c = c} {d = d} {x = x} {y = y} {z = z} {ls = ls} {us = us} e f) p q =
    let a = compare_fused (range-says d (from_below ls x y) f) q in
    let b = compare_fused (range-says c (from_above us x z) e) p in
    (x, y, z, ls, us, refl, a.0, a.1, b.1)

-- the one item of the Between stands twice in the two
compare_ands : {k : Comparison} {x y c : BoundTree} → IsCompare k x y c → and_count x + and_count y ≡ and_count c
compare_ands as_is = omega arith
compare_ands (turned e) = omega arith

pub merged_ands : {c d m : BoundTree} → MergeTo c d m → and_count m ≤ and_count c + and_count d
merged_ands (below_and_above {c = c} {d = d} {x = x} {y = y} {z = z} {ls = ls} {us = us} e f) =
    let a = compare_ands (range-says c (from_below ls x y) e) in let b = compare_ands (range-says d (from_above us x z) f) in omega arith
merged_ands (above_and_below {c = c} {d = d} {x = x} {y = y} {z = z} {ls = ls} {us = us} e f) =
    let a = compare_ands (range-says d (from_below ls x y) f) in let b = compare_ands (range-says c (from_above us x z) e) in omega arith
