use Rattle.std.proofs.Common.{drop}
use Rattle.vx_walk.specs.Shapes.{parts}
use Rattle.vx_walk.proofs.Calls.{Reached}
use Rattle.vx_walk.proofs.container.apply_ref_elements_with.Given as goal

abbrev pub invariant-loop-container : goal.invariant-loop-container
invariant-loop-container g l = record {
  ready : g.V.ElementVisitor.ready l.visitor;
  reached : Reached g.V.ElementVisitor.gives (parts g.C.NodeContainer.shape l.containers) (parts g.C.NodeContainer.shape (drop l.container-index l.containers)) l.initial.visitor l.visitor l.order;
}
