use Rattle.std.proofs.Common.{◌≡◌, ◌+◌, ◌<◌, arith, rules, length}
use Rattle.vx_tree.specs.Levels.{greatest, lent_depth, lent_depth_below}
use Rattle.vx_tree.proofs.Deepest.{depth_of-children, greatest-more}
use Rattle.vx_tree.proofs.depth.levels.Goals as goal

pub loop-alloc-smaller : goal.loop-alloc-smaller
loop-alloc-smaller g c =
    let depth = lent_depth g.T.TreeNode.tree in
    let beneath = lent_depth_below g.T.TreeNode.tree in
    let some : 0 < length c.loop-alloc.level.items = search rules in
    let more : greatest depth c.loop-alloc.level.items ≡ greatest beneath c.loop-alloc.level.items + 1 =
    greatest-more depth beneath (λ e. depth_of-children (g.T.TreeNode.tree e.now)) c.loop-alloc.level.items some in
    let below : greatest depth c.in_ok-level.level.items ≡ greatest beneath c.loop-alloc.level.items = search rules in
    let falls : greatest depth c.in_ok-level.level.items < greatest depth c.loop-alloc.level.items = omega (arith, more, below) in
    search rules

pub loop-alloc-preserved : goal.loop-alloc-preserved
loop-alloc-preserved g c =
    let depth = lent_depth g.T.TreeNode.tree in
    let beneath = lent_depth_below g.T.TreeNode.tree in
    let some : 0 < length c.loop-alloc.level.items = search rules in
    let more : greatest depth c.loop-alloc.level.items ≡ greatest beneath c.loop-alloc.level.items + 1 =
    greatest-more depth beneath (λ e. depth_of-children (g.T.TreeNode.tree e.now)) c.loop-alloc.level.items some in
    let below : greatest depth c.in_ok-level.level.items ≡ greatest beneath c.loop-alloc.level.items = search rules in
    omega (arith, more, below, c.in_ok-depth.ensures, c.loop-alloc.invariant)
