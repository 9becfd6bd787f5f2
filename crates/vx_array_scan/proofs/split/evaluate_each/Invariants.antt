use Rattle.std.proofs.Common.{◌≡◌, drop}
use Rattle.vx_tree.specs.Trees.{EachWellTyped, EachOver}
use Rattle.vx_tree.specs.Views.{bounds_of}
use Rattle.vx_query_split.specs.Splits.{part_answers}
use Rattle.vx_query_split.proofs.Answered.{behind}
use Rattle.vx_array_scan.proofs.split.evaluate_each.Given as goal

abbrev pub invariant-loop-i : goal.invariant-loop-i
invariant-loop-i l = record {
  answers : part_answers (bounds_of l.partitions) l.batch ≡ behind l.columns.items (part_answers (bounds_of (drop l.i l.partitions)) l.batch);
  typed : EachWellTyped (bounds_of (drop l.i l.partitions));
  over : EachOver (bounds_of (drop l.i l.partitions)) l.batch.type;
}
