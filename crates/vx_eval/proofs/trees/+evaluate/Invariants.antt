use Rattle.std.proofs.Common.{◌≡◌, drop}
use Rattle.vx_tree.specs.Trees.{EachWellTyped}
use Rattle.vx_tree.specs.Views.{bounds_of}
use Rattle.vx_eval.specs.Columns.{values_of, rows_views}
use Rattle.vx_eval.specs.Evaluation.{each_answer, prepended}
use Rattle.vx_eval.proofs.trees.+evaluate.Given as goal

abbrev pub invariant-evaluate_each-loop-child : goal.invariant-evaluate_each-loop-child
invariant-evaluate_each-loop-child l = record {
  answer : each_answer (bounds_of l.children) (values_of l.scope.batch.now) ≡ prepended (rows_views l.columns.items) (each_answer (bounds_of (drop l.child-index l.children)) (values_of l.scope.batch.now));
  typed : EachWellTyped (bounds_of (drop l.child-index l.children));
}
