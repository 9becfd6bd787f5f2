-- Children from left to right: what is made of those before, and what is left.
use Rattle.std.proofs.Common.{◌≡◌, ◌↔◌, ℕ, ◌+◌, ◌<◌, ◌≤◌, List, [], ◌∷◌, ◌++◌, length, get_or, take, map, arith, refl, ap, subst, sym, ◌∙◌}
use Rattle.std.proofs.lemmas.List.{append_assoc, append-nil, take_more, map-append}
use Rattle.vx_tree.specs.declared.bound.BoundExpression.{BoundExpression}
use Rattle.vx_tree.specs.Trees.{BoundTree, BoundTrees, no_bound, bound, EachWellTyped}
use Rattle.vx_tree.specs.Views.{bound_of, bounds_from}
use Rattle.vx_rewrite_core.specs.Steps.{EachNormal, Normal}
use Rattle.vx_rewrite_core.specs.Weights.{weights}
use Rattle.vx_rewrite_core.proofs.Forms.{itself}
use Rattle.vx_rewrite_core.specs.NormalForms.{NormalForm, NormalForms, no_form, form, SomeNormalForms, NormalFormsBehind}

-- of the trees all some are left, and so_far are normal forms of those before them
pub record Left (R : BoundTree → BoundTree → Type 0) (so_far : List BoundTree) (left all : BoundTrees) : Type 0 where
  pub typed : EachWellTyped left
  pub light : weights left ≤ weights all
  pub forms : (us : List BoundTree) → NormalForms R left (bounds_from us) → NormalForms R all (bounds_from (so_far ++ us))

-- so, and those before are normal
pub record LeftOfNormal (R : BoundTree → BoundTree → Type 0) (so_far : List BoundTree) (left all : BoundTrees) : Type 0 where
  pub is : Left R so_far left all
  pub normal : EachNormal R left ↔ EachNormal R all

module _ {R : BoundTree → BoundTree → Type 0} where
  -- one more child
  pub next_form : {so_far : List BoundTree} {b : BoundTree} {left all : BoundTrees} {u : BoundTree} → Left R so_far (bound b left) all → NormalForm R b u → Left R (so_far ++ u ∷ []) left all
  next_form {so_far = so_far} {u = u} h k = record {
    typed = h.typed.1;
    light = omega (arith, h.light);
    forms = λ us fs. rw (append_assoc so_far (u ∷ []) us) (h.forms (u ∷ us) (form k fs));
  }

  -- one more child that is normal
  pub next_normal : {so_far : List BoundTree} {b : BoundTree} {left all : BoundTrees} → LeftOfNormal R so_far (bound b left) all → Normal R b → LeftOfNormal R (so_far ++ b ∷ []) left all
  next_normal {b = b} h n = record {
    is = next_form h.is (itself b b h.is.typed.0 n refl);
    normal = (λ rest. h.normal.0 (n, rest), λ all. (h.normal.1 all).1);
  }

  -- the first child that isn't, and the forms of all behind it
  pub first_form : {so_far : List BoundTree} {b : BoundTree} {left all : BoundTrees} {u : BoundTree} {vs : List BoundTree} → LeftOfNormal R so_far (bound b left) all → NormalForm R b u → (Normal R b → ⊥) → NormalFormsBehind R (so_far ++ u ∷ []) left vs → SomeNormalForms R all (bounds_from vs)
  first_form h k never r = record {
    forms = rw r.is ((next_form h.is k).forms r.behind r.forms);
    some = λ n. never (h.normal.1 n).0;
  }

  -- none is left
  pub last_form : {so_far : List BoundTree} {all : BoundTrees} → Left R so_far no_bound all → NormalForms R all (bounds_from so_far)
  last_form {so_far = so_far} {all = all} h = subst (λ us. NormalForms R all (bounds_from us)) (append-nil so_far) (h.forms [] no_form)

pub map-pushed : (xs : List BoundExpression) (x : BoundExpression) → map bound_of (xs ++ x ∷ []) ≡ map bound_of xs ++ bound_of x ∷ []
map-pushed xs x = map-append bound_of xs (x ∷ [])

pub map-take_more : (xs : List BoundExpression) (i : ℕ) (x : BoundExpression) → i < length xs → x ≡ get_or xs i x → map bound_of (take (i + 1) xs) ≡ map bound_of (take i xs) ++ bound_of x ∷ []
map-take_more xs i x h e = ap (map bound_of) (take_more xs i x h) ∙ map-pushed (take i xs) (get_or xs i x) ∙ ap (λ y. map bound_of (take i xs) ++ bound_of y ∷ []) (sym e)
