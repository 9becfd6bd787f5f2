use Rattle.std.proofs.Common.{arith}
use Rattle.vx_source_over.proofs.NodeTypes.{later_next}
use Rattle.vx_source_over.proofs.nodes.first_type.Goals as goal

pub loop-begun-preserved : goal.loop-begun-preserved
loop-begun-preserved c = later_next c.args.own.now c.loop-begun.begun-index c.begun-item.result (omega arith) c.begun-item.is c.in_default.ensures c.loop-begun.invariant
