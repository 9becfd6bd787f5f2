use Rattle.std.proofs.Common.{◌≡◌, ℕ, length}
use Rattle.vx_value.specs.Types.{Datum}
use Rattle.vx_eval_masks.specs.Merges.{values_of, AnswersIn}
use Rattle.vx_eval_masks.proofs.Writing.{Written, in_mask}
use Rattle.vx_eval_masks.proofs.over.write_with.Given as goal

abbrev pub invariant-loop-i : goal.invariant-loop-i
invariant-loop-i g l = record {
  long : length l.rows.items ≡ length l.fn.rows.items;
  written : (h : ℕ → Datum) → AnswersIn (λ i r. goal.F-post g l.f i r) l.mask 0 h → Written (in_mask l.mask h) (values_of l.fn.rows.items) l.i (values_of l.rows.items);
}
