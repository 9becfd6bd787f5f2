-- Normal forms made one after another.
use Rattle.std.proofs.Common.{◌≡◌, ℕ, ◌+◌, ◌<◌, ◌≤◌, List, [], ◌∷◌, ◌++◌, length, get_or, drop, sym, ap, subst, ◌∙◌}
use Rattle.vx_tree.specs.declared.bound.BoundExpression.{BoundExpression}
use Rattle.vx_tree.specs.Trees.{BoundTree, BoundTrees, no_bound, bound}
use Rattle.vx_tree.specs.Views.{bound_of, bounds_of}
use Rattle.vx_rewrite_core.specs.Keeps.{KeepsEach, keeps_none, keeps_more}
use Rattle.vx_rewrite_core.specs.NormalForms.{NormalForm, NormalForms, no_form, form}
use Rattle.vx_tree.proofs.Bindings.{before, before_push, before_nothing}
use Rattle.vx_tree.proofs.Children.{bounds_next, bounds_end}

module _ (R : BoundTree → BoundTree → Type 0) where
  -- normal forms of those that are left make, behind those that were made, normal forms of all
  abbrev pub FormsLeft : BoundTrees → List BoundExpression → BoundTrees → Type 0
  FormsLeft all made left = (us : BoundTrees) → NormalForms R left us → NormalForms R all (before made us)

  pub next_form : (es : List BoundExpression) (all : BoundTrees) (made new : List BoundExpression) (i : ℕ) (e u : BoundExpression)
      → i < length es → e ≡ get_or es i e → new ≡ made ++ u ∷ [] → NormalForm R (bound_of e) (bound_of u)
      → FormsLeft all made (bounds_of (drop i es)) → FormsLeft all new (bounds_of (drop (i + 1) es))
  next_form es all made new i e u h is pushed f left us fs =
      let more = subst (λ bs. NormalForms R bs (bound (bound_of u) us)) (sym (bounds_next es i e h is)) (form f fs) in
      subst (NormalForms R all) (sym (before_push made u us) ∙ ap (λ xs. before xs us) (sym pushed)) (left (bound (bound_of u) us) more)

  pub last_form : (es : List BoundExpression) (all : BoundTrees) (made : List BoundExpression) (i : ℕ) → length es ≤ i
      → FormsLeft all made (bounds_of (drop i es)) → NormalForms R all (bounds_of made)
  last_form es all made i h left =
      subst (NormalForms R all) (before_nothing made) (left no_bound (subst (λ bs. NormalForms R bs no_bound) (sym (bounds_end es i h)) no_form))

  -- normal forms keep, each its tree
  pub forms_keep : {bs us : BoundTrees} → NormalForms R bs us → KeepsEach bs us
  forms_keep no_form = keeps_none
  forms_keep (form f fs) = keeps_more f.keeps (forms_keep fs)
