use Rattle.std.proofs.Common.{◌≡◌, ◌≤◌, length, drop, map}
use Rattle.std.specs.Vec.{vec_len, vec_capacity}
use Rattle.vx_walk.specs.Mapping.{AtOwned}
use Rattle.vx_walk.specs.Rewrites.{RewritesTo}
use Rattle.vx_walk.proofs.Rows.{RowFront}
use Rattle.vx_walk.proofs.rewrite.+rewrite_children.Given as goal

abbrev pub decreases-rewrite_children : goal.decreases-rewrite_children
decreases-rewrite_children g l = g.N.Node.height (g.N.Node.mirror l.parent.now)

abbrev pub invariant-loop-child : goal.invariant-loop-child
invariant-loop-child g l = record {
  ready : g.R.NodeRewriter.ready l.rewriter;
  len : vec_len l.siblings.handed_back ≡ l.child-index;
  room : length l.child-items ≤ vec_capacity l.siblings.handed_back;
  front : RowFront g.N.Node.mirror (RewritesTo g.N.Node.kids g.N.Node.rebuild_gives (AtOwned g.N.Node.mirror g.R.NodeRewriter.down_gives) (AtOwned g.N.Node.mirror g.R.NodeRewriter.up_gives))
      (map g.N.Node.mirror l.child-items) (map g.N.Node.mirror (drop l.child-index l.child-items)) l.initial.rewriter l.rewriter l.siblings.handed_back.items l.siblings.order l.siblings.changed;
}
