use Rattle.std.proofs.Common.{◌≡◌, map, rules, subst, sym}
use Rattle.std.specs.Prelude.{Err}
use Rattle.vx_dtype.specs.Returns.{ReturnsOrOom}
use Rattle.vx_forms.specs.Given.{all_seen}
use Rattle.vx_forms.proofs.AllGiven.{counted_next, given_next, given_refused, taken}
use Rattle.vx_forms.proofs.operands.trees_given.Goals as goal

pub returns-in_err-into_tree-clause-trees : goal.returns-in_err-into_tree-clause-trees
returns-in_err-into_tree-clause-trees g c =
    let failed : c.from_residual-in_err-into_tree.result ≡ Err c.in_err-into_tree.field-0.0 = search rules in
    subst (λ r. ReturnsOrOom (λ trees. map g.T.TreeNode.seen trees.items) r (all_seen g.T.TreeNode.seen (map g.O.Operand.given c.args.operands.items))) (sym failed)
    (given_refused g.O.Operand.given g.T.TreeNode.seen c.args.operands.items c.loop-operand.yielded c.in-Some.operand _ _ _ _
    c.loop-operand.invariant.so_far c.loop-operand.invariant.whole c.in-Some.ensures.steps.0 c.in_err-into_tree.ensures)

pub loop-operand-preserved : goal.loop-operand-preserved
loop-operand-preserved g c = record {
  so_far = given_next g.O.Operand.given g.T.TreeNode.seen c.loop-operand.yielded c.in-Some.operand c.loop-operand.trees.items _ c.in_ok-into_tree.field-0
      c.loop-operand.invariant.so_far c.in_ok-into_tree.ensures c.in_ok-push.ensures.items;
  counted = counted_next _ _ _ _ _ c.loop-operand.invariant.counted c.in_ok-push.ensures.items;
  whole = taken _ _ _ _ _ c.loop-operand.invariant.whole c.in-Some.ensures.steps.0;
}
