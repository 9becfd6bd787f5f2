use Rattle.std.proofs.Common.{◌≡◌, ◌+◌, drop}
use Rattle.std.specs.Prelude.{max}
use Rattle.vx_tree.specs.Depths.{depth_of}
use Rattle.vx_tree.specs.Levels.{greatest, lent_depth, lent_depth_below}
use Rattle.vx_tree.proofs.depth.level_below.Given as goal

-- the children that are found, those of this node that are left, and those of the nodes that are left have together the greatest depth of all
abbrev pub invariant-loop-child : goal.invariant-loop-child
invariant-loop-child g l =
    let tree = g.T.TreeNode.tree in
    let found = max (greatest (lent_depth tree) l.below.items) (greatest (λ t. depth_of (tree t)) (drop l.child-index l.child-items)) in
    max found (greatest (lent_depth_below tree) (drop (l.i + 1) l.level)) ≡ greatest (lent_depth_below tree) l.level

abbrev pub invariant-loop-i : goal.invariant-loop-i
invariant-loop-i g l =
    let tree = g.T.TreeNode.tree in
    max (greatest (lent_depth tree) l.below.items) (greatest (lent_depth_below tree) (drop l.i l.level)) ≡ greatest (lent_depth_below tree) l.level
