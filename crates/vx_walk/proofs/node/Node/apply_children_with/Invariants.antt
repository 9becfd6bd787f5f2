use Rattle.std.proofs.Common.{drop}
use Rattle.vx_walk.specs.Shapes.{element, parts}
use Rattle.vx_walk.specs.Walks.{At}
use Rattle.vx_walk.proofs.Calls.{Reached}
use Rattle.vx_walk.proofs.node.Node.apply_children_with.Given as goal

abbrev pub invariant-loop-child : goal.invariant-loop-child
invariant-loop-child g l = record {
  ready : g.V.ElementVisitor.ready l.visitor;
  reached : Reached (At g.Self.Node.mirror g.V.ElementVisitor.gives) (parts (λ n. element (g.Self.Node.mirror n)) l.child-items) (parts (λ n. element (g.Self.Node.mirror n)) (drop l.child-index l.child-items)) l.initial.visitor l.visitor l.order;
}
