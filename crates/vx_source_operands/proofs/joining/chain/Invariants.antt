use Rattle.std.proofs.Common.{length}
use Rattle.vx_fn.specs.Views.{operation_of}
use Rattle.vx_source_operands.proofs.Chains.{ChainGoes}
use Rattle.vx_source_operands.proofs.joining.chain.Given as goal

abbrev pub invariant-loop-operator : goal.invariant-loop-operator
invariant-loop-operator l = ChainGoes (operation_of l.operator) l.context.room l.fn.items.items l.left.items

abbrev pub decreases-loop-operator : goal.decreases-loop-operator
decreases-loop-operator l = length l.left.items
