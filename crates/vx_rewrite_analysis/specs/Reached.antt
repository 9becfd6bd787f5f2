-- The nodes that are reached from a tree's first one.
use Rattle.std.specs.Prelude.{Bool, false, not, ◌||◌, ◌&&◌, IsTrue}
use Rattle.vx_tree.specs.Equality.{equal_bound}
use Rattle.vx_tree.specs.Trees.{BoundTree, scope, node, BoundTrees, no_bound, bound, WellTyped}

module _ (stops : BoundTree → Bool) where
  -- whether n is reached: it is the tree itself, or, where that doesn't stop, is reached from a child
  abbrev mutual
    pub is_reached : BoundTree → BoundTree → Bool
    is_reached n (scope t) = equal_bound n (scope t)
    is_reached n (node t f bs) = equal_bound n (node t f bs) || (not (stops (node t f bs)) && is_reached_in n bs)

    -- whether n is reached from one of the trees
    pub is_reached_in : BoundTree → BoundTrees → Bool
    is_reached_in n no_bound = false
    is_reached_in n (bound b bs) = is_reached n b || is_reached_in n bs

-- no node stops
abbrev pub nowhere : BoundTree → Bool
nowhere b = false

-- whether n is a node of the tree: the tree itself, or one below it
abbrev pub occurs : BoundTree → BoundTree → Bool
occurs n b = is_reached nowhere n b

-- whether n is a node of one of the trees
abbrev pub occurs_in : BoundTree → BoundTrees → Bool
occurs_in n bs = is_reached_in nowhere n bs

-- n is a node of the tree, and well typed where the tree is
abbrev pub IsNodeOf : BoundTree → BoundTree → Type 0
IsNodeOf n b = IsTrue (occurs n b) × (WellTyped b → WellTyped n)
