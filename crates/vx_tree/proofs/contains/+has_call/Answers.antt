use Rattle.std.proofs.Common.{arith}
use Rattle.vx_tree.proofs.Seen.{child_smaller}
use Rattle.vx_tree.proofs.contains.+has_call.Goals as goal

pub has_call-requires : goal.has_call-requires
has_call-requires g t c κs within =
    let tree = g.T.TreeNode.tree in
    let smaller = child_smaller tree (tree c.args.node.now) c.node_children-child-items.result.now c.loop-child.child-index c.child-item.result c.node_children-child-items.ensures (omega arith) c.child-item.is in
    (omega (arith, smaller, c.decreases), within)
