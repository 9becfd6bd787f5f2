use Rattle.std.proofs.Common.{◌≡◌, ◌++◌, map, length}
use Rattle.std.specs.Prelude.{Ok}
use Rattle.vx_forms.specs.Given.{all_seen}
use Rattle.vx_forms.proofs.operands.trees_given.Given as goal

abbrev pub invariant-loop-operand : goal.invariant-loop-operand
invariant-loop-operand g l = record {
  so_far : all_seen g.T.TreeNode.seen (map g.O.Operand.given l.yielded) ≡ Ok (map g.T.TreeNode.seen l.trees.items);
  counted : length l.trees.items ≡ length l.yielded;
  whole : l.fn.operands.items ≡ l.yielded ++ l.operand-iterator.rest.items;
}
