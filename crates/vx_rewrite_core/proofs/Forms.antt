-- How normal forms are put together.
use Rattle.std.proofs.Common.{◌≡◌, ◌↔◌, ℕ, suc, refl, sym, subst, arith}
use Rattle.std.specs.Prelude.{Option, Some, None, IfSome, IsNone, unwrap_or}
use Rattle.std.specs.Option.{option_map}
use Rattle.std.specs.Global.{Box}
use Rattle.vx_tree.specs.declared.bound.BoundExpression.{BoundExpression}
use Rattle.vx_tree.specs.Trees.{BoundTree, scope, node, WellTyped}
use Rattle.vx_tree.specs.Views.{bound_of}
use Rattle.vx_rewrite_core.specs.Lawful.{Lawful}
use Rattle.vx_rewrite_core.specs.Steps.{here, Steps, no_step, one_more, RootSteps, no_root_step, one_more_at_root, GivesNothing, Normal, NormalBelow}
use Rattle.vx_rewrite_core.proofs.Keeping.{keeps_refl}
use Rattle.vx_rewrite_core.proofs.Stepping.{steps_keep}
use Rattle.vx_rewrite_core.specs.NormalForms.{NormalForm, RootNormalForm}
use Rattle.vx_rewrite_core.proofs.Rebuilding.{Rebuilt, steps_then}
use Rattle.vx_rewrite_core.proofs.Weighing.{steps_lighter}

pub root_steps_then : {R : BoundTree → BoundTree → Type 0} {b u w : BoundTree} {n : ℕ} → RootSteps R b n u → R u w → RootSteps R b (suc n) w
root_steps_then no_root_step r = one_more_at_root r no_root_step
root_steps_then (one_more_at_root s q) r = one_more_at_root s (root_steps_then q r)

pub steps-root_steps : {R : BoundTree → BoundTree → Type 0} {b u : BoundTree} {n : ℕ} → RootSteps R b n u → Steps R b n u
steps-root_steps no_root_step = no_step
steps-root_steps (one_more_at_root r q) = one_more (here r) (steps-root_steps q)

-- a tree at whose root no rule fits is its own normal form there
pub root_itself : {R : BoundTree → BoundTree → Type 0} (b u : BoundTree) → WellTyped b → GivesNothing R b → u ≡ b → RootNormalForm R b u
root_itself {R = R} b u w n e =
    subst (RootNormalForm R b) (sym e) record { count = 0; steps = no_root_step; lighter = omega arith; normal = n; keeps = keeps_refl b w }

-- a normal tree is its own normal form
pub itself : {R : BoundTree → BoundTree → Type 0} (b u : BoundTree) → WellTyped b → Normal R b → u ≡ b → NormalForm R b u
itself {R = R} b u w n e =
    subst (NormalForm R b) (sym e) record { count = 0; steps = no_step; lighter = omega arith; normal = n; keeps = keeps_refl b w }

-- the tree in the box
abbrev pub boxed : Box BoundExpression → BoundTree
boxed u = bound_of u.value

pub boxed-unwrap_or : (found : Option (Box BoundExpression)) (u : Box BoundExpression) → boxed (unwrap_or found u) ≡ unwrap_or (option_map boxed found) (boxed u)
boxed-unwrap_or None u = refl
boxed-unwrap_or (Some v) u = refl

-- the form that was found, and the tree itself where it is normal
pub form_or_itself : {R : BoundTree → BoundTree → Type 0} (b : BoundTree) (found : Option (Box BoundExpression)) → WellTyped b
    → IfSome found (λ u. NormalForm R b (bound_of u.value)) → (IsNone found ↔ Normal R b) → NormalForm R b (unwrap_or (option_map boxed found) b)
form_or_itself b None w h none = itself b b w (none.0 refl) refl
form_or_itself b (Some u) w h none = h

-- a tree is normal where no rule fits at its root and below it
pub node_normal : (R : BoundTree → BoundTree → Type 0) (b : BoundTree) → GivesNothing R b → NormalBelow R b → Normal R b
node_normal R (scope t) g n = g
node_normal R (node t f bs) g n = (g, n)

module _ {R : BoundTree → BoundTree → Type 0} (law : Lawful R) where
  -- steps to where no rule fits at the root
  pub root_form : {b u : BoundTree} {n : ℕ} → RootSteps R b n u → WellTyped b → GivesNothing R u → RootNormalForm R b u
  root_form {n = n} s w normal = record {
    count = n;
    steps = s;
    lighter = steps_lighter R law (steps-root_steps s) w;
    normal = normal;
    keeps = steps_keep R law.keeps (steps-root_steps s) w;
  }

  -- what lies below the root stays normal
  root_steps_below : {b u : BoundTree} {n : ℕ} → RootSteps R b n u → WellTyped b → NormalBelow R b → NormalBelow R u
  root_steps_below no_root_step w n = n
  root_steps_below (one_more_at_root {b = b} {u = u} r q) w n = root_steps_below q (law.keeps b u w r).typed_after (law.normal b u w r n)

  -- steps to where no rule fits at all
  pub whole_form : {b u : BoundTree} {n : ℕ} → Steps R b n u → WellTyped b → Normal R u → NormalForm R b u
  whole_form {n = n} s w normal = record {
    count = n;
    steps = s;
    lighter = steps_lighter R law s w;
    normal = normal;
    keeps = steps_keep R law.keeps s w;
  }

  -- the root, and then what lies below it
  pub form_below : {b u v : BoundTree} → WellTyped b → RootNormalForm R b u → NormalForm R u v → NormalForm R b v
  form_below w root h = whole_form (steps_then (steps-root_steps root.steps) h.steps).1 w h.normal

  -- the node made anew, and then its root again
  pub form_again : {b v u : BoundTree} → WellTyped b → Rebuilt R b v → RootNormalForm R v u → NormalForm R b u
  form_again {u = u} w k h =
      whole_form (steps_then k.steps (steps-root_steps h.steps)).1 w (node_normal R u h.normal (root_steps_below h.steps k.typed k.below))
