-- What steps take of a tree's weight, and that a tree weighs more than what is below its root.
use Rattle.std.proofs.Common.{◌≡◌, ℕ, ◌+◌, ◌*◌, ◌<◌, ◌≤◌, refl, ap, arith}
use Rattle.std.specs.Prelude.{Ok}
use Rattle.vx_value.specs.Types.{LogicalType, Fields, Datum}
use Rattle.vx_value.specs.Fields.{field_count}
use Rattle.vx_dtype.specs.Joins.{Narrower, narrower, same_atomic_shape, narrower_list, narrower_fixed, narrower_struct, NarrowerFields, no_fields, narrower_field}
use Rattle.vx_fn.specs.Functions.{Function, literal, get_item, pack, zip, case_when, select, fn_type}
use Rattle.vx_tree.specs.Trees.{BoundTree, scope, node, BoundTrees, no_bound, bound, WellTyped, EachWellTyped, node_types}
use Rattle.vx_tree.specs.Nodes.{bound_children_of}
use Rattle.vx_rewrite_core.specs.Lawful.{Lawful}
use Rattle.vx_rewrite_core.specs.Steps.{Step, here, below, OneStep, this_one, later_one, Steps, no_step, one_more}
use Rattle.vx_rewrite_core.specs.Weights.{width, weight, weights}
use Rattle.vx_rewrite_core.proofs.Stepping.{step_keeps}

field_count-narrower : {fs gs : Fields} → NarrowerFields fs gs → field_count fs ≡ field_count gs
field_count-narrower no_fields = refl
field_count-narrower (narrower_field p q) = ap (λ n. n + 1) (field_count-narrower q)

width-narrower : {t u : LogicalType} → Narrower t u → width t ≡ width u
width-narrower (narrower same_atomic_shape i) = refl
width-narrower (narrower (narrower_list p) i) = refl
width-narrower (narrower (narrower_fixed p) i) = refl
width-narrower (narrower (narrower_struct q) i) = field_count-narrower q

many_lighter : (k a b : ℕ) → a < b → (k + 1) * a < (k + 1) * b
many_lighter k a b h = grind arith

-- a literal has no children that could be lighter
childless : {P : Type 0} (u t : LogicalType) (c : Datum) (bs us : BoundTrees) → fn_type (literal u c) (node_types bs) ≡ Ok t → weights us < weights bs → P
childless u t c no_bound us e h = absurd (omega (arith, h))
childless u t c (bound b bs) us e h = cc

-- a node over children that are lighter together, with a narrower type, is lighter
node_lighter : (f : Function) (t t' : LogicalType) (bs us : BoundTrees) → fn_type f (node_types bs) ≡ Ok t → Narrower t' t → weights us < weights bs → weight (node t' f us) < weight (node t f bs)
node_lighter (literal u c) t t' bs us e p h = childless u t c bs us e h
node_lighter (select sel) t t' bs us e p h = rw (width-narrower p) (omega (arith, many_lighter (width t) (weights us) (weights bs) h))
node_lighter (get_item a) t t' bs us e p h = omega (arith, h)
node_lighter (pack names n) t t' bs us e p h = omega (arith, h)
node_lighter zip t t' bs us e p h = omega (arith, h)
node_lighter (case_when pairs has_else) t t' bs us e p h = omega (arith, h)
node_lighter _ t t' bs us e p h = omega (arith, h)

-- the children weigh less together than the well-typed node over them
weights-below : (f : Function) (t : LogicalType) (bs : BoundTrees) → fn_type f (node_types bs) ≡ Ok t → weights bs < weight (node t f bs)
weights-below (literal u c) t no_bound e = omega arith
weights-below (literal u c) t (bound b bs) e = cc
weights-below (select sel) t bs e = grind arith
weights-below (get_item a) t bs e = omega arith
weights-below (pack names n) t bs e = omega arith
weights-below zip t bs e = omega arith
weights-below (case_when pairs has_else) t bs e = omega arith
weights-below _ t bs e = omega arith

-- what is below the root is lighter than the tree, and well typed if it is
pub weights-children : (b : BoundTree) → WellTyped b → weights (bound_children_of b) < weight b
weights-children (scope t) w = omega arith
weights-children (node t f bs) w = weights-below f t bs w.0

module _ (R : BoundTree → BoundTree → Type 0) (law : Lawful R) where
  mutual
    pub step_lighter : {b u : BoundTree} → Step R b u → WellTyped b → weight u < weight b
    step_lighter (here {b = b} {u = u} r) w = law.lighter b u w r
    step_lighter (below {t = t} {t' = t'} {f = f} {bs = bs} {us = us} s e) w =
        node_lighter f t t' bs us w.0 (step_keeps R law.keeps (below s e) w).type (one_step_lighter s w.2)

    one_step_lighter : {bs us : BoundTrees} → OneStep R bs us → EachWellTyped bs → weights us < weights bs
    one_step_lighter (this_one s) w = omega (arith, step_lighter s w.0)
    one_step_lighter (later_one s) w = omega (arith, one_step_lighter s w.1)

  -- each of the steps takes some of the weight
  pub steps_lighter : {b u : BoundTree} {n : ℕ} → Steps R b n u → WellTyped b → n + weight u ≤ weight b
  steps_lighter no_step w = omega arith
  steps_lighter (one_more s r) w = omega (arith, step_lighter s w, steps_lighter r (step_keeps R law.keeps s w).typed_after)
