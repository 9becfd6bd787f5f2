use Rattle.std.proofs.Common.{◌≡◌, ◌∙◌, sym, arith}
use Rattle.vx_places.proofs.SeenNodes.{node_next, node_none}
use Rattle.vx_places.proofs.nodes.node_at.Goals as goal

pub returns-in-None : goal.returns-in-None
returns-in-None g c =
    sym (c.loop-index.invariant ∙ node_none g.T.TreeNode.tree c.args.path.now c.loop-index.index-index (g.T.TreeNode.tree c.loop-index.node.now) c.node_children.result.now (omega arith) c.node_children.ensures c.in-None.ensures.lookup.3)

pub loop-index-preserved : goal.loop-index-preserved
loop-index-preserved g c =
    c.loop-index.invariant
    ∙ node_next g.T.TreeNode.tree c.args.path.now c.loop-index.index-index (g.T.TreeNode.tree c.loop-index.node.now) c.node_children.result.now (omega arith) c.node_children.ensures c.in-Some.child.now c.in-Some.ensures.lookup.3.0 c.in-Some.ensures.lookup.1
