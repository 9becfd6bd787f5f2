use Rattle.std.proofs.Common.{◌≡◌, ◌+◌}
use Rattle.vx_tree.specs.Depths.{depth_of}
use Rattle.vx_tree.specs.Levels.{greatest, lent_depth}
use Rattle.vx_tree.proofs.depth.levels.Given as goal

-- the levels so far and those below are all
abbrev pub invariant-loop-alloc : goal.invariant-loop-alloc
invariant-loop-alloc g l = l.depth + greatest (lent_depth g.T.TreeNode.tree) l.level.items ≡ depth_of (g.T.TreeNode.tree l.node)

abbrev pub decreases-loop-alloc : goal.decreases-loop-alloc
decreases-loop-alloc g l = greatest (lent_depth g.T.TreeNode.tree) l.level.items
