-- Trees whose scope roots all lie at or below a node with one annotation.
use Rattle.std.specs.Prelude.{Bool, true, false, ◌==◌, ◌||◌, ◌&&◌, ◌⊎◌, Option, None, Some, IsTrue}
use Rattle.std.specs.HashMap.{HashMap}
use Rattle.std.specs.HashSet.{HashSet, hash_set_len}
use Rattle.vx_tree.specs.Trees.{BoundTree, scope, node, BoundTrees, no_bound, bound}
use Rattle.vx_tree.specs.declared.exact.ExactBoundExpr.{ExactBoundExpr}
use Rattle.vx_rewrite_analysis.specs.Keys.{entry_at}

-- whether there is a set of exactly one annotation
abbrev pub is_single : {A S : Type 0} → Option (HashSet A S) → Bool
is_single None = false
is_single (Some s) = hash_set_len s == 1

-- whether the node has exactly one annotation in the map
abbrev pub has_single : {A S Z : Type 0} → HashMap ExactBoundExpr (HashSet A S) Z → BoundTree → Bool
has_single m b = is_single (entry_at b m)

module _ (is_piece : BoundTree → Bool) where
  -- every scope root lies at or below a piece
  abbrev mutual
    pub Covered : BoundTree → Type 0
    Covered (scope t) = IsTrue (is_piece (scope t))
    Covered (node t f bs) = IsTrue (is_piece (node t f bs)) ⊎ AreCovered bs

    pub AreCovered : BoundTrees → Type 0
    AreCovered no_bound = Unit {0}
    AreCovered (bound b bs) = Covered b × AreCovered bs

  -- the test of it
  abbrev mutual
    pub is_covered : BoundTree → Bool
    is_covered (scope t) = is_piece (scope t)
    is_covered (node t f bs) = is_piece (node t f bs) || are_covered bs

    pub are_covered : BoundTrees → Bool
    are_covered no_bound = true
    are_covered (bound b bs) = is_covered b && are_covered bs
