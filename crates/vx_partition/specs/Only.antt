-- The annotation of a node that has exactly one, and the annotations that a walk of a tree meets.
use Rattle.std.specs.Prelude.{List, [], ◌∷◌, ◌++◌, Option, Some, None}
use Rattle.std.specs.HashMap.{HashMap}
use Rattle.std.specs.HashSet.{HashSet}
use Rattle.vx_tree.specs.Trees.{BoundTree, scope, node, BoundTrees, no_bound, bound}
use Rattle.vx_tree.specs.declared.exact.ExactBoundExpr.{ExactBoundExpr}
use Rattle.vx_rewrite_analysis.specs.Keys.{entry_at}

-- the item of a list of one item
abbrev pub only_item : {A : Type 0} → List A → Option A
only_item (a ∷ []) = Some a
only_item _ = None

-- the annotation of a set of one annotation
abbrev pub only_key : {A S : Type 0} → Option (HashSet A S) → Option A
only_key None = None
only_key (Some s) = only_item s.keys

-- the annotation of a node that has exactly one in the map
abbrev pub only_annotation : {A S T : Type 0} → HashMap ExactBoundExpr (HashSet A S) T → BoundTree → Option A
only_annotation m b = only_key (entry_at b m)

module _ {A : Type 0} where
  -- below a node with one annotation no node is looked at
  abbrev pub met_at : Option A → List (Option A) → List (Option A)
  met_at (Some a) below = Some a ∷ []
  met_at None below = None ∷ below

  module _ (only : BoundTree → Option A) where
    -- the annotation of each node that is looked at, a node before its children and these from left to right
    abbrev mutual
      pub annotations_met : BoundTree → List (Option A)
      annotations_met (scope t) = met_at (only (scope t)) []
      annotations_met (node t f bs) = met_at (only (node t f bs)) (annotations_met_in bs)

      pub annotations_met_in : BoundTrees → List (Option A)
      annotations_met_in no_bound = []
      annotations_met_in (bound b bs) = annotations_met b ++ annotations_met_in bs
