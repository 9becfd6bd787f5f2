use Rattle.std.proofs.Common.{◌≡◌, drop, map}
use Rattle.vx_tree.specs.Nodes.{has_call_of, have_call_of, size_of}
use Rattle.vx_tree.specs.Views.{trees_from}
use Rattle.vx_tree.proofs.contains.+has_call.Given as goal

abbrev pub decreases-has_call : goal.decreases-has_call
decreases-has_call g l = size_of (g.T.TreeNode.tree l.node.now)

-- neither the node nor a tree so far has such a node
abbrev pub invariant-loop-child : goal.invariant-loop-child
invariant-loop-child g l =
    has_call_of g.V.ScalarFnVTable.is_of (g.T.TreeNode.tree l.fn.node)
    ≡ have_call_of g.V.ScalarFnVTable.is_of (trees_from (map g.T.TreeNode.tree (drop l.child-index l.child-items)))
