use Rattle.std.proofs.Common.{map, drop}
use Rattle.vx_walk.proofs.Folding.{FoldFront}
use Rattle.vx_walk.proofs.fold.+fold.Given as goal

abbrev pub decreases-fold : goal.decreases-fold
decreases-fold g l = g.N.Node.height (g.N.Node.mirror l.node.now)

abbrev pub invariant-loop-child : goal.invariant-loop-child
invariant-loop-child g l = record {
  ready : g.F.NodeFolderContext.ready l.folder;
  front : FoldFront g.N.Node.mirror g.N.Node.kids g.F.NodeFolderContext.down_gives g.F.NodeFolderContext.up_gives
      l.below (map g.N.Node.mirror l.child-items) (map g.N.Node.mirror (drop l.child-index l.child-items)) l.initial.folder l.folder l.results.items;
}
