-- A tree over its marks: holes where they say so, and the rest as it is. No public contract names this file: it is for the contracts of the steps within the crate.
use Rattle.std.specs.Prelude.{List, [], ◌∷◌, map, Option, Some, None, Vec}
use Rattle.vx_tree.specs.declared.bound.BoundExpression.{BoundExpression}
use Rattle.vx_tree.specs.Trees.{BoundTree, scope, node, BoundTrees, no_bound, bound}
use Rattle.vx_tree.specs.Views.{bound_of}
use Rattle.vx_partition.specs.declared.mark.Mark.{Mark}
use Rattle.vx_partition.specs.declared.mark.Mark.TheVariants.{Kept, Above, Hole}
use Rattle.vx_partition.specs.Packing.{hole_at}

-- the holes that a list of lists holds
abbrev pub holes_seen : {Z : Type 0} → List (Vec BoundExpression Z) → List (List BoundTree)
holes_seen holes = map (λ v. map bound_of v.items) holes

-- the hole that was found, else the tree
abbrev pub hole_or_tree : Option BoundTree → BoundTree → BoundTree
hole_or_tree None b = b
hole_or_tree (Some hole) b = hole

-- the tree as its marks say, and the marks that are left
module _ (holes : List (List BoundTree)) where
  abbrev mutual
    pub filled : BoundTree → List Mark → BoundTree × List Mark
    filled (scope t) [] = (scope t, [])
    filled (scope t) (Hole g i ∷ ms) = (hole_or_tree (hole_at holes g i) (scope t), ms)
    filled (scope t) (m ∷ ms) = (scope t, ms)
    filled (node t f bs) [] = (node t f bs, [])
    filled (node t f bs) (Hole g i ∷ ms) = (hole_or_tree (hole_at holes g i) (node t f bs), ms)
    filled (node t f bs) (Above ∷ ms) = (node t f (filled_each bs ms).0, (filled_each bs ms).1)
    filled (node t f bs) (Kept ∷ ms) = (node t f bs, ms)

    pub filled_each : BoundTrees → List Mark → BoundTrees × List Mark
    filled_each no_bound ms = (no_bound, ms)
    filled_each (bound b bs) ms = (bound (filled b ms).0 (filled_each bs (filled b ms).1).0, (filled_each bs (filled b ms).1).1)
