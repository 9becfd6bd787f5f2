use Rattle.std.proofs.Common.{◌≡◌, ◌≤◌, ◌-◌, length, map}
use Rattle.vx_value.specs.Types.{null}
use Rattle.vx_eval_masks.specs.Merges.{merged_at}
use Rattle.vx_eval.specs.Choices.{SameRows}
use Rattle.vx_eval.specs.Columns.{values_of, rows_views, each_row}
use Rattle.vx_eval.proofs.merging.Choices.in_order.Given as goal

abbrev pub invariant-loop-next : goal.invariant-loop-next
invariant-loop-next l = record {
  within : l.next ≤ l.count;
  so_far : values_of l.rows.items ≡ each_row l.next (merged_at l.self.masks.now (rows_views l.fn.values.items) null);
  left : SameRows l.next (rows_views l.fn.values.items) (rows_views l.values.items);
  long : map length (rows_views l.values.items) ≡ map length (rows_views l.fn.values.items);
}

abbrev pub decreases-loop-next : goal.decreases-loop-next
decreases-loop-next l = l.count - l.next
