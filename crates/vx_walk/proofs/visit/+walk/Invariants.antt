use Rattle.std.proofs.Common.{drop, map}
use Rattle.vx_walk.specs.Walks.{At}
use Rattle.vx_walk.proofs.Walking.{Front}
use Rattle.vx_walk.proofs.visit.+walk.Given as goal

abbrev pub decreases-walk : goal.decreases-walk
decreases-walk g l = g.N.Node.height (g.N.Node.mirror l.node.now)

abbrev pub invariant-loop-child : goal.invariant-loop-child
invariant-loop-child g l =
    record {
      ready : g.V.NodeVisitor.ready l.visitor;
      front : Front g.N.Node.kids (At g.N.Node.mirror g.V.NodeVisitor.down_gives) (At g.N.Node.mirror g.V.NodeVisitor.up_gives)
          (map g.N.Node.mirror l.child-items) (map g.N.Node.mirror (drop l.child-index l.child-items)) l.initial.visitor l.visitor l.order;
    }
