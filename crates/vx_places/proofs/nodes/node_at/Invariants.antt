use Rattle.std.proofs.Common.{◌≡◌, drop}
use Rattle.vx_places.specs.Nodes.{node_at}
use Rattle.vx_places.proofs.nodes.node_at.Given as goal

-- what is left of the path leads from this node to where the path leads from the first
abbrev pub invariant-loop-index : goal.invariant-loop-index
invariant-loop-index g l = node_at l.path (g.T.TreeNode.tree l.tree) ≡ node_at (drop l.index-index l.path) (g.T.TreeNode.tree l.node)
