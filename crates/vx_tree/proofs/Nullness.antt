-- What validity tells.
use Rattle.std.proofs.Common.{◌≡◌, ◌≢◌, length, IfOk, Result, List, [], ◌∷◌, refl, sym, ap, subst, ◌∙◌, Bool, true, false, map}
use Rattle.std.specs.Prelude.{Ok, Err, not, if◌then◌else◌}
use Rattle.vx_value.specs.Types.{LogicalType, Datum, bool, is_null_datum}
use Rattle.vx_fn.specs.Functions.{literal, pack, fill_null}
use Rattle.vx_dtype.specs.Lists.{IsIn}
use Rattle.vx_tree.specs.Faults.{HasNoFault, first_fault, each_fault}
use Rattle.vx_tree.specs.Meaning.{value, values}
use Rattle.vx_tree.specs.Trees.{BoundTree, node, no_bound, bound, node_types, WellTyped}
use Rattle.vx_tree.specs.Validity.{truth_literal, not_null_of, fill_of_node, validity_of, TellsValidity}
use Rattle.vx_dtype.specs.declared.error.VortexError.{VortexError}
use Rattle.vx_value.specs.Returns.{ReturnsOrOom}
use Rattle.vx_tree.specs.declared.bound.BoundExpression.{BoundExpression}
use Rattle.vx_tree.specs.Views.{bound_of, bounds_from}
use Rattle.vx_tree.proofs.Trees.{or_none, row_safe, IsIn-map}

-- a test of null faults where its child does
quiet_test : (b : BoundTree) (batch : List Datum) → HasNoFault b batch → HasNoFault (not_null_of b) batch
quiet_test b batch n = rw n refl

tested : (b : BoundTree) → WellTyped b → TellsValidity b (not_null_of b)
tested b w = record {
  typed = (refl, tt, (w, tt));
  type = refl;
  over = λ s o. (o, tt);
  no_fault = quiet_test b;
  tells = λ batch n v i. refl;
}

-- a truth literal, for a tree whose rows are all null or all not
told : (b : BoundTree) (c : Bool) → ((v : Datum) → not (is_null_datum (value b v)) ≡ c) → TellsValidity b (truth_literal c)
told b c known = record {
  typed = (refl, refl, tt);
  type = refl;
  over = λ s o. tt;
  no_fault = λ batch n. refl;
  tells = λ batch n v i. ap bool (sym (known v));
}

-- a fill that isn't null leaves no null
filled : (x y : Datum) → is_null_datum y ≡ false → is_null_datum (if is_null_datum x then y else x) ≡ false
filled x y e = go (is_null_datum x) refl
  where
    go : (c : Bool) → is_null_datum x ≡ c → is_null_datum (if c then y else x) ≡ false
    go true q = e
    go false q = q

-- where a filling node doesn't fault, its fill doesn't either
fill_quiet : (t : LogicalType) (x y : BoundTree) (batch : List Datum) → HasNoFault (node t fill_null (bound x (bound y no_bound))) batch → HasNoFault y batch
fill_quiet t x y batch n =
    let below = or_none (each_fault (bound x (bound y no_bound)) batch) _ n in
    let after = or_none (first_fault x batch) (each_fault (bound y no_bound) batch) below.0 in
    (or_none (first_fault y batch) (each_fault no_bound batch) after.1).0

-- and no row of its fill is null
fill_not_null : (t : LogicalType) (x y : BoundTree) (batch : List Datum) → HasNoFault (node t fill_null (bound x (bound y no_bound))) batch → (v : Datum) → IsIn v batch → is_null_datum (value y v) ≡ false
fill_not_null t x y batch n v i =
    let below = or_none (each_fault (bound x (bound y no_bound)) batch) _ n in
    (row_safe fill_null (node_types (bound x (bound y no_bound))) (map (values (bound x (bound y no_bound))) batch) (values (bound x (bound y no_bound)) v) below.1 (IsIn-map (values (bound x (bound y no_bound))) batch v i)).1

fill_tells : (t : LogicalType) (x y : BoundTree) → WellTyped (node t fill_null (bound x (bound y no_bound))) → TellsValidity (node t fill_null (bound x (bound y no_bound))) (not_null_of y)
fill_tells t x y w = record {
  typed = (refl, tt, (w.2.1.0, tt));
  type = refl;
  over = λ s o. (o.1.0, tt);
  no_fault = λ batch n. quiet_test y batch (fill_quiet t x y batch n);
  tells = λ batch n v i.
      let known : is_null_datum (value y v) ≡ false = fill_not_null t x y batch n v i in
      ap (λ c. bool (not c)) (known ∙ sym (filled (value x v) (value y v) known));
}

pub tells_validity : (b : BoundTree) → WellTyped b → TellsValidity b (validity_of b)
tells_validity (node t (literal u c) bs) w = told (node t (literal u c) bs) (not (is_null_datum c)) (λ v. refl)
tells_validity (node t (pack names n) bs) w = told (node t (pack names n) bs) true (λ v. refl)
tells_validity (node t fill_null (bound x (bound y no_bound))) w = fill_tells t x y w
tells_validity b w = tested b w

-- what an answer tells, where it is that tree
pub answer_tells : (r : Result BoundExpression VortexError) (b : BoundTree) → WellTyped b → ReturnsOrOom bound_of r (Ok (validity_of b)) → IfOk r (λ u. TellsValidity b (bound_of u))
answer_tells (Ok u) b w h = let same : validity_of b ≡ bound_of u = cc in subst (TellsValidity b) same (tells_validity b w)
answer_tells (Err e) b w h = tt

-- a list of another length than two has no second of two
pub fill_of_other : {A : Type 0} (view : A → BoundTree) (b : BoundTree) (xs : List A) → length xs ≢ 2 → b ≡ fill_of_node b (bounds_from (map view xs))
fill_of_other view b [] h = refl
fill_of_other view b (x ∷ []) h = refl
fill_of_other view b (x ∷ y ∷ []) h = absurd (h refl)
fill_of_other view b (x ∷ y ∷ z ∷ xs) h = refl
