-- Steps of children, taken below the node over them.
use Rattle.std.proofs.Common.{◌≡◌, ℕ, suc, refl, subst}
use Rattle.std.specs.Prelude.{Some, Result, Ok, Err}
use Rattle.std.specs.Result.{IsOkAnd}
use Rattle.vx_dtype.specs.declared.error.VortexError.{VortexError}
use Rattle.vx_value.specs.Types.{LogicalType}
use Rattle.vx_fn.specs.Functions.{Function, fn_type}
use Rattle.vx_tree.specs.Trees.{BoundTree, scope, node, BoundTrees, bound, node_types, unbound, WellTyped}
use Rattle.vx_tree.specs.Binding.{node_over}
use Rattle.vx_tree.specs.Nodes.{function_at, bound_children_of}
use Rattle.vx_rewrite_core.specs.Keeps.{KeepsEach, keeps_none, keeps_more}
use Rattle.vx_rewrite_core.specs.Lawful.{Lawful}
use Rattle.vx_rewrite_core.specs.Steps.{below, OneStep, this_one, later_one, Steps, no_step, one_more, EachNormal, NormalBelow}
use Rattle.vx_rewrite_core.proofs.Keeping.{keeps_again}
use Rattle.vx_rewrite_core.proofs.Stepping.{one_step_keeps}
use Rattle.vx_rewrite_core.specs.NormalForms.{NormalForms, no_form, form}

pub steps_then : {R : BoundTree → BoundTree → Type 0} {b u w : BoundTree} {m n : ℕ} → Steps R b m u → Steps R u n w → (k : ℕ) × Steps R b k w
steps_then no_step r = (_, r)
steps_then (one_more s q) r = let k = steps_then q r in (suc k.0, one_more s k.1)

pub each_keeps : {R : BoundTree → BoundTree → Type 0} {bs us : BoundTrees} → NormalForms R bs us → KeepsEach bs us
each_keeps no_form = keeps_none
each_keeps (form h k) = keeps_more h.keeps (each_keeps k)

pub each_normal : {R : BoundTree → BoundTree → Type 0} {bs us : BoundTrees} → NormalForms R bs us → EachNormal R us
each_normal no_form = tt
each_normal (form h k) = (h.normal, each_normal k)

-- single steps of children, one after another
data StepsAmong (R : BoundTree → BoundTree → Type 0) : BoundTrees → BoundTrees → Type 0 where
  none_among : {bs : BoundTrees} → StepsAmong R bs bs
  one_among : {bs us ws : BoundTrees} → OneStep R bs us → StepsAmong R us ws → StepsAmong R bs ws

module _ {R : BoundTree → BoundTree → Type 0} where
  then_among : {bs us ws : BoundTrees} → StepsAmong R bs us → StepsAmong R us ws → StepsAmong R bs ws
  then_among none_among k = k
  then_among (one_among s h) k = one_among s (then_among h k)

  among_first : {b u : BoundTree} {n : ℕ} (bs : BoundTrees) → Steps R b n u → StepsAmong R (bound b bs) (bound u bs)
  among_first bs no_step = none_among
  among_first bs (one_more s r) = one_among (this_one s) (among_first bs r)

  among_later : (b : BoundTree) {bs us : BoundTrees} → StepsAmong R bs us → StepsAmong R (bound b bs) (bound b us)
  among_later b none_among = none_among
  among_later b (one_among s r) = one_among (later_one s) (among_later b r)

  among_all : {bs us : BoundTrees} → NormalForms R bs us → StepsAmong R bs us
  among_all no_form = none_among
  among_all (form {u = u} {bs = bs} h k) = then_among (among_first bs h.steps) (among_later u (among_all k))

same_type : (f : Function) (bs : BoundTrees) {t t' : LogicalType} → fn_type f (node_types bs) ≡ Ok t → fn_type f (node_types bs) ≡ Ok t' → t ≡ t'
same_type f bs e d = cc

-- where a typed node can be made, it is what was made
pub same_made : {made : Result BoundTree VortexError} {u v : BoundTree} → made ≡ Ok u → made ≡ Ok v → u ≡ v
same_made is also = cc

pub typed_made : (made : Result BoundTree VortexError) (v : BoundTree) → IsOkAnd made WellTyped → made ≡ Ok v → WellTyped v
typed_made (Ok u) v w is = subst WellTyped (same_made refl is) w
typed_made (Err e) v w is = absurd w

-- the node v was reached from b, and no rule fits below its root
pub record Rebuilt (R : BoundTree → BoundTree → Type 0) (b v : BoundTree) : Type 0 where
  pub typed : WellTyped v
  pub count : ℕ
  pub steps : Steps R b count v
  pub below : NormalBelow R v

module _ {R : BoundTree → BoundTree → Type 0} (law : Lawful R) where
  -- after each the node is typed anew
  steps_below : {f : Function} {t' : LogicalType} {us bs : BoundTrees} {t : LogicalType} → StepsAmong R bs us → WellTyped (node t f bs) → fn_type f (node_types us) ≡ Ok t' → (n : ℕ) × Steps R (node t f bs) n (node t' f us)
  steps_below {f = f} {bs = bs} {t = t} none_among w e =
      (0, subst (λ x. Steps R (node t f bs) 0 (node x f bs)) (same_type f bs w.0 e) no_step)
  steps_below {f = f} {t = t} (one_among {bs = bs} {us = ws} s r) w e =
      let again = keeps_again t f bs ws w (one_step_keeps R law.keeps s w.2) in
      let rest = steps_below r again.2.typed_after e in
      (suc rest.0, one_more (below s again.1) rest.1)

  -- a well-typed node over normal forms of its children is typed anew, and reached
  pub node_again : (b : BoundTree) (f : Function) (us : BoundTrees) → function_at (unbound b) ≡ Some f → WellTyped b → NormalForms R (bound_children_of b) us → (v : BoundTree) × (node_over f us ≡ Ok v) × Rebuilt R b v
  node_again (scope t) f us is w h = cc
  node_again (node t g bs) f us is w h =
      let again = keeps_again t g bs us w (each_keeps h) in
      let reached = steps_below (among_all h) w again.1 in
      let all : Rebuilt R (node t g bs) (node again.0 g us) = record { typed = again.2.typed_after; count = reached.0; steps = reached.1; below = each_normal h } in
      let same : g ≡ f = cc in
      subst (λ x. (v : BoundTree) × (node_over x us ≡ Ok v) × Rebuilt R (node t g bs) v) same (node again.0 g us, rw again.1 refl, all)
