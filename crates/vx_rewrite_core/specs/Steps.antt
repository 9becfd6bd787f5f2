-- Steps of a relation between bound trees: at the root, or at any node.
use Rattle.std.specs.Prelude.{◌≡◌, ℕ, zero, suc, Ok}
use Rattle.vx_value.specs.Types.{LogicalType}
use Rattle.vx_fn.specs.Functions.{Function, fn_type}
use Rattle.vx_tree.specs.Trees.{BoundTree, scope, node, BoundTrees, no_bound, bound, node_types}

-- R gives u at b, or one child takes a step and the node is typed anew
mutual
  pub data Step (R : BoundTree → BoundTree → Type 0) : BoundTree → BoundTree → Type 0 where
    here : {b u : BoundTree} → R b u → Step R b u
    below : {t t' : LogicalType} {f : Function} {bs us : BoundTrees} → OneStep R bs us → fn_type f (node_types us) ≡ Ok t' → Step R (node t f bs) (node t' f us)

  pub data OneStep (R : BoundTree → BoundTree → Type 0) : BoundTrees → BoundTrees → Type 0 where
    this_one : {b u : BoundTree} {bs : BoundTrees} → Step R b u → OneStep R (bound b bs) (bound u bs)
    later_one : {b : BoundTree} {bs us : BoundTrees} → OneStep R bs us → OneStep R (bound b bs) (bound b us)

-- so many steps one after another, at any nodes
pub data Steps (R : BoundTree → BoundTree → Type 0) : BoundTree → ℕ → BoundTree → Type 0 where
  no_step : {b : BoundTree} → Steps R b zero b
  one_more : {b u w : BoundTree} {n : ℕ} → Step R b u → Steps R u n w → Steps R b (suc n) w

-- so many steps one after another, all at the root
pub data RootSteps (R : BoundTree → BoundTree → Type 0) : BoundTree → ℕ → BoundTree → Type 0 where
  no_root_step : {b : BoundTree} → RootSteps R b zero b
  one_more_at_root : {b u w : BoundTree} {n : ℕ} → R b u → RootSteps R u n w → RootSteps R b (suc n) w

-- R gives nothing at the node
abbrev pub GivesNothing : (BoundTree → BoundTree → Type 0) → BoundTree → Type 0
GivesNothing R b = (u : BoundTree) → R b u → ⊥

-- R gives nothing at any node
abbrev mutual
  pub Normal : (BoundTree → BoundTree → Type 0) → BoundTree → Type 0
  Normal R (scope t) = GivesNothing R (scope t)
  Normal R (node t f bs) = GivesNothing R (node t f bs) × EachNormal R bs

  pub EachNormal : (BoundTree → BoundTree → Type 0) → BoundTrees → Type 0
  EachNormal R no_bound = Unit {0}
  EachNormal R (bound b bs) = Normal R b × EachNormal R bs

-- so at all nodes below the root
abbrev pub NormalBelow : (BoundTree → BoundTree → Type 0) → BoundTree → Type 0
NormalBelow R (scope t) = Unit {0}
NormalBelow R (node t f bs) = EachNormal R bs
