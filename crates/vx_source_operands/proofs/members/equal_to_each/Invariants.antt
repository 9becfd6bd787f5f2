use Rattle.std.proofs.Common.{◌≡◌}
use Rattle.vx_tree.specs.Views.{tree_of}
use Rattle.vx_source_operands.specs.OperandViews.{operand_of}
use Rattle.vx_source_operands.proofs.EqualItems.{EqualGoes}
use Rattle.vx_source_operands.proofs.members.equal_to_each.Given as goal

abbrev pub invariant-loop-item : goal.invariant-loop-item
invariant-loop-item l = (tree_of l.again.tree ≡ operand_of l.fn.operand) × EqualGoes (operand_of l.fn.operand) l.context.room l.fn.items.items l.equal.items l.items.rest.items

abbrev pub decreases-loop-item : goal.decreases-loop-item
decreases-loop-item l = l.items.rest.len
