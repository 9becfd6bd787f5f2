use Rattle.std.proofs.Common.{◌≡◌, ◌+◌, arith, refl, sym, subst, drop}
use Rattle.std.specs.Prelude.{max}
use Rattle.vx_tree.specs.Depths.{depth_of}
use Rattle.vx_tree.specs.Levels.{greatest, lent_depth, lent_depth_below}
use Rattle.vx_tree.proofs.Deepest.{level-next, child-next, children-depth}
use Rattle.vx_tree.proofs.depth.level_below.Goals as goal

pub loop-child-init : goal.loop-child-init
loop-child-init g c =
    let tree = g.T.TreeNode.tree in
    let x = c.index-level-i.result in
    let ts = c.node_children-child-items.result.now in
    level-next (lent_depth tree) (lent_depth_below tree) (λ t. depth_of (tree t)) c.args.level.now c.loop-i.i x ts _ _ (omega arith) c.index-level-i.is (children-depth tree (tree x.now) ts c.node_children-child-items.ensures) c.loop-i.invariant

pub loop-child-preserved : goal.loop-child-preserved
loop-child-preserved g c =
    let tree = g.T.TreeNode.tree in
    let ts = c.node_children-child-items.result.now in
    let left = greatest (lent_depth_below tree) (drop (c.loop-i.i + 1) c.args.level.now) in
    let all = greatest (lent_depth_below tree) c.args.level.now in
    subst (λ found. max (max (greatest (lent_depth tree) found) (greatest (λ t. depth_of (tree t)) (drop (c.loop-child.child-index + 1) ts))) left ≡ all) (sym c.in_ok-push.ensures.items)
    (child-next (lent_depth tree) (lent_depth_below tree) (λ t. depth_of (tree t)) c.args.level.now c.loop-i.i c.loop-child.below.items _ ts c.loop-child.child-index c.child-item.result left all (omega arith) c.child-item.is refl c.loop-child.invariant)
