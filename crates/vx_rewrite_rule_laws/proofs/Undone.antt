-- A negation of a negation or of a test for null, a cast to the type of what is cast, and a mask that is true in every row are kept by
-- what is below, or the other test of it.
use Rattle.std.proofs.Common.{◌≡◌, [], ◌∷◌, refl, sym, subst, Bool, true, false, not}
use Rattle.vx_value.specs.Fits.{Fits}
use Rattle.vx_value.specs.Types.{LogicalType, ty, Datum, null, bool, is_null_datum, with_nullability}
use Rattle.vx_dtype.specs.Joins.{Narrower, narrower}
use Rattle.vx_fn.proofs.Monotone.{shape_refl}
use Rattle.vx_fn.specs.Functions.{logical_not, is_null, is_not_null, mask, cast, truth_type}
use Rattle.vx_fn.specs.Rows.{FnType, of_not, of_is_null, of_is_not_null, of_mask}
use Rattle.vx_fn.specs.Values.{is_true, kleene_not}
use Rattle.vx_tree.specs.Meaning.{value}
use Rattle.vx_tree.specs.Trees.{BoundTree, node, node_type, WellTyped}
use Rattle.vx_rewrite_core.specs.Keeps.{Keeps}
use Rattle.vx_rewrite_core.proofs.Prelude.{narrower_refl, fn_type-found, value-fits, each_passes, first_quiet, children_quiet, only_quiet}
use Rattle.vx_rewrite_core.specs.Nodes.{one_bound, two_bounds}
use Rattle.vx_rewrite_rule_laws.proofs.Constants.{literal_of, constant_value}
use Rattle.vx_rewrite_rule_laws.specs.Folding.{is_literal_of, null_test}

-- ---- negations

-- a negation is of truth values, and of its operand's type
truths : {a t : LogicalType} → FnType logical_not (a ∷ []) t → (n : Bool) × (a ≡ truth_type n) × (t ≡ truth_type n)
truths (of_not {n = n}) = (n, refl, refl)

twice : (v : Datum) (n : Bool) → Fits v (truth_type n) → kleene_not (kleene_not v) ≡ v
twice null n e = refl
twice (bool true) n e = refl
twice (bool false) n e = refl
twice _ n e = cc

pub keeps_negated_twice : (t p : LogicalType) (x : BoundTree) → WellTyped (node t logical_not (one_bound (node p logical_not (one_bound x)))) → Keeps (node t logical_not (one_bound (node p logical_not (one_bound x)))) x
keeps_negated_twice t p x w =
    let outer = truths (fn_type-found logical_not (p ∷ []) t w.0) in
    let inner = truths (fn_type-found logical_not (node_type x ∷ []) p w.2.0.0) in
    let is : node_type x ≡ t = cc in
    record {
      typed_before = w;
      typed_after = w.2.0.2.0;
      scopes = λ s o. o.0.0;
      type = subst (Narrower (node_type x)) is (narrower_refl (node_type x));
      no_fault = λ s batch o i n. only_quiet p logical_not x batch (only_quiet t logical_not (node p logical_not (one_bound x)) batch n);
      meaning = λ s batch o i n v j.
          let quiet = only_quiet p logical_not x batch (only_quiet t logical_not (node p logical_not (one_bound x)) batch n) in
          let fits = value-fits x s batch v w.2.0.2.0 o.0.0 quiet j (each_passes _ batch v i j) in
          sym (twice (value x v) inner.0 (subst (Fits (value x v)) inner.1 fits));
    }

-- ---- negated tests for null

not_twice : (b : Bool) → bool b ≡ bool (not (not b))
not_twice true = refl
not_twice false = refl

-- a test has the type of truth values without null, and so has its negation
tested : {a p : LogicalType} → FnType is_null (a ∷ []) p → p ≡ truth_type false
tested of_is_null = refl

there : {a p : LogicalType} → FnType is_not_null (a ∷ []) p → p ≡ truth_type false
there of_is_not_null = refl

denied_narrower : {p t : LogicalType} → FnType logical_not (p ∷ []) t → p ≡ truth_type false → Narrower (truth_type false) t
denied_narrower {t = t} k e =
    let q = truths k in
    let is : truth_type false ≡ t = cc in
    subst (Narrower (truth_type false)) is (narrower_refl (truth_type false))

pub keeps_null_denied : (t p : LogicalType) (x : BoundTree) → WellTyped (node t logical_not (one_bound (node p is_null (one_bound x)))) → Keeps (node t logical_not (one_bound (node p is_null (one_bound x)))) (null_test false x)
keeps_null_denied t p x w = record {
  typed_before = w;
  typed_after = (refl, tt, (w.2.0.2.0, tt));
  scopes = λ s o. (o.0.0, tt);
  type = denied_narrower (fn_type-found logical_not (p ∷ []) t w.0) (tested (fn_type-found is_null (node_type x ∷ []) p w.2.0.0));
  no_fault = λ s batch o i n. let h = only_quiet p is_null x batch (only_quiet t logical_not (node p is_null (one_bound x)) batch n) in rw h refl;
  meaning = λ s batch o i n v j. refl;
}

pub keeps_value_denied : (t p : LogicalType) (x : BoundTree) → WellTyped (node t logical_not (one_bound (node p is_not_null (one_bound x)))) → Keeps (node t logical_not (one_bound (node p is_not_null (one_bound x)))) (null_test true x)
keeps_value_denied t p x w = record {
  typed_before = w;
  typed_after = (refl, tt, (w.2.0.2.0, tt));
  scopes = λ s o. (o.0.0, tt);
  type = denied_narrower (fn_type-found logical_not (p ∷ []) t w.0) (there (fn_type-found is_not_null (node_type x ∷ []) p w.2.0.0));
  no_fault = λ s batch o i n. let h = only_quiet p is_not_null x batch (only_quiet t logical_not (node p is_not_null (one_bound x)) batch n) in rw h refl;
  meaning = λ s batch o i n v j. not_twice (is_null_datum (value x v));
}

-- ---- casts

pub keeps_own_cast : (t u : LogicalType) (x : BoundTree) → WellTyped (node t (cast u) (one_bound x)) → node_type x ≡ t → Keeps (node t (cast u) (one_bound x)) x
keeps_own_cast t u x w e = record {
  typed_before = w;
  typed_after = w.2.0;
  scopes = λ s o. o.0;
  type = subst (Narrower (node_type x)) e (narrower_refl (node_type x));
  no_fault = λ s batch o i n. only_quiet t (cast u) x batch n;
  meaning = λ s batch o i n v j. refl;
}

-- ---- masks

nullable_above : (t : LogicalType) → Narrower t (with_nullability true t)
nullable_above (ty s n) = narrower (shape_refl s) (λ e. refl)

masked_type : {a b t : LogicalType} → FnType mask (a ∷ b ∷ []) t → t ≡ with_nullability true a
masked_type of_mask = refl

pub keeps_masked_nowhere : (t : LogicalType) (x m : BoundTree) → WellTyped (node t mask (two_bounds x m)) → is_literal_of is_true m ≡ true → Keeps (node t mask (two_bounds x m)) x
keeps_masked_nowhere t x m w e = record {
  typed_before = w;
  typed_after = w.2.0;
  scopes = λ s o. o.0;
  type = subst (Narrower (node_type x)) (sym (masked_type (fn_type-found mask (node_type x ∷ node_type m ∷ []) t w.0))) (nullable_above (node_type x));
  no_fault = λ s batch o i n. first_quiet x (one_bound m) batch (children_quiet t mask (two_bounds x m) batch n);
  meaning = λ s batch o i n v j. let l = literal_of is_true m w.2.1.0 e in rw (constant_value l v, l.passes) refl;
}
