use Rattle.std.proofs.Common.{◌≡◌}
use Rattle.vx_tree.specs.Views.{trees_from}
use Rattle.vx_source_grammar.specs.Listing.{scalars_in}
use Rattle.vx_source_operands.specs.ListViews.{lent_scalars}
use Rattle.vx_source_operands.specs.OperandViews.{operand_of, operands_of}
use Rattle.vx_source_operands.proofs.Gathering.{onto, scalars_from}
use Rattle.vx_source_operands.proofs.members.scalars_of.Given as goal

abbrev pub invariant-loop-i : goal.invariant-loop-i
invariant-loop-i l = scalars_in (trees_from (operands_of l.items)) ≡ onto (lent_scalars l.scalars.items) (scalars_from operand_of l.items l.i)
