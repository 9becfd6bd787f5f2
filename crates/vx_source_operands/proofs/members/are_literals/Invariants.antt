use Rattle.std.proofs.Common.{◌≡◌}
use Rattle.std.specs.Option.{is_some}
use Rattle.vx_tree.specs.Views.{trees_from}
use Rattle.vx_source_grammar.specs.Listing.{scalars_in}
use Rattle.vx_source_operands.specs.OperandViews.{operand_of, operands_of}
use Rattle.vx_source_operands.proofs.Gathering.{scalars_from}
use Rattle.vx_source_operands.proofs.members.are_literals.Given as goal

abbrev pub invariant-loop-i : goal.invariant-loop-i
invariant-loop-i l = is_some (scalars_in (trees_from (operands_of l.items))) ≡ is_some (scalars_from operand_of l.items l.i)
