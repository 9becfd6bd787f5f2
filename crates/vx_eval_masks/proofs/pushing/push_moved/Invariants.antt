use Rattle.std.proofs.Common.{◌≡◌, ◌≤◌, ◌<◌, ℕ, length, get_or, true, false}
use Rattle.vx_value.specs.Types.{Datum}
use Rattle.vx_eval_masks.specs.Merges.{values_of, each_row, HoldsIn, StaysFrom}
use Rattle.vx_eval_masks.proofs.pushing.push_moved.Given as goal

abbrev pub invariant-loop-i : goal.invariant-loop-i
invariant-loop-i l = record {
  on : (k : ℕ) → l.from ≤ k → k < l.i → get_or l.mask k false ≡ true;
  long : length l.values.items ≡ length l.fn.values.items;
  left : StaysFrom l.i (values_of l.fn.values.items) (values_of l.values.items);
  rows : (h : ℕ → Datum) → HoldsIn l.mask l.from (values_of l.fn.values.items) h → values_of l.fn.rows.items ≡ each_row l.from h → values_of l.rows.items ≡ each_row l.i h;
}
