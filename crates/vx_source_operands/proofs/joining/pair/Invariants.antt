use Rattle.vx_fn.specs.Views.{operation_of}
use Rattle.vx_source_operands.proofs.Chains.{PairGoes}
use Rattle.vx_source_operands.proofs.joining.pair.Given as goal

abbrev pub invariant-loop-lhs : goal.invariant-loop-lhs
invariant-loop-lhs l = PairGoes (operation_of l.operator) l.context.room l.fn.items.items l.left.items l.items.rest.items

abbrev pub decreases-loop-lhs : goal.decreases-loop-lhs
decreases-loop-lhs l = l.items.rest.len
