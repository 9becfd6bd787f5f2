use Rattle.std.proofs.Common.{arith, ap, refl, subst, sym, ◌∙◌}
use Rattle.vx_tree.specs.Pushed.{Pushes}
use Rattle.vx_tree.specs.Views.{bounds_of}
use Rattle.vx_eval.specs.Columns.{values_of, rows_view}
use Rattle.vx_eval.proofs.PackedItems.{item_given, place_within, picked_is}
use Rattle.vx_eval.proofs.Transposed.{column_put, typed_on, as_many, as_long_as, root_given, node_given}
use Rattle.vx_eval.proofs.trees.+evaluate.Goals as goal

pub evaluate_each-loop-child-preserved : goal.evaluate_each-loop-child-preserved
evaluate_each-loop-child-preserved t c =
    let i = c.loop-child.child-index in
    let bs = c.args.children.now in
    let child = c.child-item.result in
    let pushed = c.in_default.ensures in
    record {
      answer = column_put bs (values_of c.args.scope.batch.now) i child c.loop-child.columns.items c.push_evaluated.new.columns.items pushed.0 _ (omega arith) c.child-item.is c.loop-child.invariant.answer pushed.2 pushed.1;
      typed = typed_on bs i child (omega arith) c.child-item.is c.loop-child.invariant.typed;
    }

pub push_evaluated-returns-in-Root : goal.push_evaluated-returns-in-Root
push_evaluated-returns-in-Root t c =
    subst (λ said. Pushes rows_view c.args.columns.now.items c.push_batch.result said c.push_batch.new.columns.items) (sym (root_given _ _ _ c.in-Root.is)) c.push_batch.ensures

pub push_evaluated-returns-in-Some : goal.push_evaluated-returns-in-Some
push_evaluated-returns-in-Some t c =
    subst (λ said. Pushes rows_view c.args.columns.now.items c.push_item.result said c.push_item.new.columns.items)
    (item_given _ _ _ _ c.as_slice-children.result.now _ _ _ c.in-Scalar.is (c.as_slice-children.ensures.value ∙ ap (λ v. v.items) c.deref.ensures) c.index-children-0.is c.in-Some.ensures.takes) c.push_item.ensures

pub push_evaluated-push_applied-requires-clause-number : goal.push_evaluated-push_applied-requires-clause-number
push_evaluated-push_applied-requires-clause-number t c = as_many (bounds_of c.as_slice-children.result.now) _ _ c.in_ok-below-in-None.ensures

pub push_evaluated-push_applied-requires-clause-long : goal.push_evaluated-push_applied-requires-clause-long
push_evaluated-push_applied-requires-clause-long t c =
    as_long_as c.args.scope.batch.now _ (bounds_of c.as_slice-children.result.now) _ refl c.in_ok-below-in-None.ensures

pub push_evaluated-returns-in_ok-below-in-None : goal.push_evaluated-returns-in_ok-below-in-None
push_evaluated-returns-in_ok-below-in-None t c =
    subst (λ said. Pushes rows_view c.args.columns.now.items c.push_applied.result said c.push_applied.new.columns.items)
    (node_given _ _ _ _ c.as_slice-children.result.now c.args.scope.batch.now _ _ c.in-Scalar.is (c.as_slice-children.ensures.value ∙ ap (λ v. v.items) c.deref.ensures)
    refl c.in_ok-below-in-None.ensures) c.push_applied.ensures

pub push_item-push_picked-requires : goal.push_item-push_picked-requires
push_item-push_picked-requires t c =
    let within = place_within _ _ _ _ c.as_slice.result.now c.args.place c.in-Scalar.is (c.as_slice.ensures.value ∙ ap (λ v. v.items) c.deref.ensures) c.requires.packs in
    omega (arith, within, as_many (bounds_of c.as_slice.result.now) (values_of c.args.scope.batch.now) c.in_ok-below-in-Scalar.below.items c.in_ok-below-in-Scalar.ensures)

pub push_item-returns : goal.push_item-returns
push_item-returns t c =
    subst (λ said. Pushes rows_view c.args.columns.now.items c.push_picked.result said c.push_picked.new.columns.items)
    (picked_is _ _ _ _ c.as_slice.result.now (values_of c.args.scope.batch.now) _ c.args.place c.in-Scalar.is (c.as_slice.ensures.value ∙ ap (λ v. v.items) c.deref.ensures) c.in_ok-below-in-Scalar.ensures) c.push_picked.ensures
