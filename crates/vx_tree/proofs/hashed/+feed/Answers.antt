use Rattle.std.proofs.Common.{ap, arith}
use Rattle.vx_tree.specs.Nodes.{sizes_of}
use Rattle.vx_tree.proofs.Seen.{item_smaller, sizes_of-children}
use Rattle.vx_tree.proofs.hashed.+feed.Goals as goal

pub feed-feed_all-requires : goal.feed-feed_all-requires
feed-feed_all-requires g t c κs within =
    let same = ap sizes_of c.node_children.ensures in
    (omega (arith, sizes_of-children (g.T.TreeNode.tree c.args.node.now), same, c.decreases), within)

pub feed_all-feed-requires : goal.feed_all-feed-requires
feed_all-feed-requires g t c κs within =
    let below = item_smaller g.T.TreeNode.tree c.args.nodes.now c.loop-node.node-index c.node-item.result (omega arith) c.node-item.is in
    (omega (arith, below, c.decreases), within)
