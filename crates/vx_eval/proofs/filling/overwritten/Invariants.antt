use Rattle.std.proofs.Common.{◌≡◌, ℕ, length}
use Rattle.vx_value.specs.Types.{Datum}
use Rattle.vx_eval.specs.Columns.{values_of}
use Rattle.vx_eval.specs.Kernels.{MakesRows}
use Rattle.vx_eval_masks.proofs.Writing.{Written}
use Rattle.vx_eval.proofs.filling.overwritten.Given as goal

abbrev pub invariant-loop-i : goal.invariant-loop-i
invariant-loop-i g l = record {
  long : length l.values.items ≡ length l.fn.values.items;
  written : (h : ℕ → Datum → Datum) → MakesRows (λ i x r. goal.F-post g l.f i x r) (length l.fn.values.items) h → Written h (values_of l.fn.values.items) l.i (values_of l.values.items);
}
