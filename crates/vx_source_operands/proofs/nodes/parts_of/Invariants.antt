use Rattle.std.proofs.Common.{◌≡◌, ◌≤◌, false, map}
use Rattle.vx_tree.specs.Views.{tree_of, trees_of}
use Rattle.vx_source_grammar.specs.Nodes.{heights_of}
use Rattle.vx_source_operands.specs.OperandViews.{operands_of}
use Rattle.vx_source_operands.specs.PlacedNodes.{AreWithin}
use Rattle.vx_source_operands.proofs.nodes.parts_of.Given as goal

abbrev pub invariant-loop-operand : goal.invariant-loop-operand
invariant-loop-operand l = record {
  trees : map tree_of l.trees.items ≡ operands_of l.yielded;
  counted : l.highest ≡ heights_of (trees_of l.trees.items);
  ordered : l.start ≤ l.end;
  within : ∥ AreWithin false l.start l.end (trees_of l.trees.items) l.children.items ∥₁;
}
