use Rattle.vx_source_over.proofs.NodeTypes.{TypeLater}
use Rattle.vx_source_over.proofs.nodes.first_type.Given as goal

abbrev pub invariant-loop-begun : goal.invariant-loop-begun
invariant-loop-begun l = TypeLater l.own l.begun-index
