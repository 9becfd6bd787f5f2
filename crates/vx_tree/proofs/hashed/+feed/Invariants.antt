use Rattle.std.proofs.Common.{◌≡◌, ◌+◌, ◌*◌, drop, fold, map}
use Rattle.vx_tree.specs.Hashes.{trees_fed}
use Rattle.vx_tree.specs.Nodes.{size_of, sizes_of}
use Rattle.vx_tree.specs.Views.{trees_from}
use Rattle.vx_tree.proofs.hashed.+feed.Given as goal

abbrev pub decreases-feed : goal.decreases-feed
decreases-feed g l = 2 * size_of (g.T.TreeNode.tree l.node.now)

abbrev pub decreases-feed_all : goal.decreases-feed_all
decreases-feed_all g l = 2 * sizes_of (trees_from (map g.T.TreeNode.tree l.nodes.now)) + 1

-- the trees so far are fed
abbrev pub invariant-feed_all-loop-node : goal.invariant-feed_all-loop-node
invariant-feed_all-loop-node g l =
    fold g.H.Hasher.write l.initial.state (trees_fed (trees_from (map g.T.TreeNode.tree l.nodes)))
    ≡ fold g.H.Hasher.write l.state (trees_fed (trees_from (map g.T.TreeNode.tree (drop l.node-index l.nodes))))
