-- Steps of what keeps keep, and where nothing is given there are none.
use Rattle.std.proofs.Common.{◌≡◌, ℕ, List, subst}
use Rattle.std.specs.Prelude.{Ok}
use Rattle.vx_fn.proofs.Rows.{fn_type-found, fn_type-only}
use Rattle.vx_fn.proofs.Monotone.{fn_type-mono}
use Rattle.vx_rewrite_core.proofs.Keeping.{keeps_node, keeps_trans, keeps_refl, types-narrower}
use Rattle.vx_value.specs.Types.{LogicalType}
use Rattle.vx_dtype.specs.Joins.{Narrower}
use Rattle.vx_fn.specs.Functions.{Function, fn_type}
use Rattle.vx_tree.specs.Trees.{BoundTree, scope, node, BoundTrees, bound, no_bound, node_types, WellTyped, EachWellTyped}
use Rattle.vx_rewrite_core.specs.Keeps.{Keeps, KeepsEach, keeps_none, keeps_more}
use Rattle.vx_rewrite_core.specs.Steps.{Step, here, below, OneStep, this_one, later_one, Steps, no_step, one_more, GivesNothing, Normal, EachNormal, NormalBelow}

pub same_type : (f : Function) (ts : List LogicalType) (t u v : LogicalType) → fn_type f ts ≡ Ok t → fn_type f ts ≡ Ok u → Narrower t v → Narrower u v
same_type f ts t u v e h p = let q : t ≡ u = cc in subst (λ t. Narrower t v) q p

module _ (R : BoundTree → BoundTree → Type 0) (keeps : (b u : BoundTree) → WellTyped b → R b u → Keeps b u) where
  each_refl : (bs : BoundTrees) → EachWellTyped bs → KeepsEach bs bs
  each_refl no_bound w = keeps_none
  each_refl (bound b bs) w = keeps_more (keeps_refl b w.0) (each_refl bs w.1)

  mutual
    pub step_keeps : {b u : BoundTree} → Step R b u → WellTyped b → Keeps b u
    step_keeps (here {b = b} {u = u} r) w = keeps b u w r
    step_keeps (below {t = t} {t' = t'} {f = f} {bs = bs} {us = us} s e) w =
        let ks = one_step_keeps s w.2 in
        let x = fn_type-mono (fn_type-found f (node_types bs) t w.0) (types-narrower ks) in
        keeps_node t t' f bs us w ks e (same_type f (node_types us) x.0 t' t (fn_type-only x.1) e x.2)

    pub one_step_keeps : {bs us : BoundTrees} → OneStep R bs us → EachWellTyped bs → KeepsEach bs us
    one_step_keeps (this_one {b = b} {u = u} {bs = bs} s) w = keeps_more (step_keeps s w.0) (each_refl bs w.1)
    one_step_keeps (later_one {b = b} s) w = keeps_more (keeps_refl b w.0) (one_step_keeps s w.1)

  pub steps_keep : {b u : BoundTree} {n : ℕ} → Steps R b n u → WellTyped b → Keeps b u
  steps_keep (no_step {b = b}) w = keeps_refl b w
  steps_keep (one_more {b = b} {u = u} {w = v} s r) w = let k = step_keeps s w in keeps_trans b u v k (steps_keep r k.typed_after)

module _ (R : BoundTree → BoundTree → Type 0) where
  pub nothing_at_root : (b : BoundTree) → Normal R b → GivesNothing R b
  nothing_at_root (scope t) n = n
  nothing_at_root (node t f bs) n = n.0

  mutual
    -- normal trees take no step
    pub no_step_left : {b u : BoundTree} → Step R b u → Normal R b → ⊥
    no_step_left {b = b} {u = u} (here r) n = nothing_at_root b n u r
    no_step_left (below s e) n = none_left s n.1

    none_left : {bs us : BoundTrees} → OneStep R bs us → EachNormal R bs → ⊥
    none_left (this_one s) n = no_step_left s n.0
    none_left (later_one s) n = none_left s n.1

  -- and those that are normal below the root take steps at the root alone
  pub step_at_root : {b u : BoundTree} → Step R b u → NormalBelow R b → R b u
  step_at_root (here r) n = r
  step_at_root (below s e) n = absurd (none_left s n)
