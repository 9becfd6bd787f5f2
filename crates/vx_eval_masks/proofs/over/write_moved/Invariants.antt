use Rattle.std.proofs.Common.{◌≡◌, length, get_or}
use Rattle.vx_value.specs.Types.{null}
use Rattle.vx_eval_masks.specs.Merges.{values_of, StaysFrom}
use Rattle.vx_eval_masks.proofs.Writing.{Written, in_mask}
use Rattle.vx_eval_masks.proofs.over.write_moved.Given as goal

abbrev pub invariant-loop-i : goal.invariant-loop-i
invariant-loop-i l = record {
  long : length l.rows.items ≡ length l.fn.rows.items;
  same : length l.values.items ≡ length l.fn.values.items;
  written : Written (in_mask l.mask (λ k. get_or (values_of l.fn.values.items) k null)) (values_of l.fn.rows.items) l.i (values_of l.rows.items);
  left : StaysFrom l.i (values_of l.fn.values.items) (values_of l.values.items);
}
