use Rattle.std.proofs.Common.{◌≡◌, ℕ, map}
use Rattle.vx_value.specs.Types.{Datum}
use Rattle.vx_fn.specs.Values.{is_true}
use Rattle.vx_eval.specs.Columns.{each_row}
use Rattle.vx_eval.specs.Kernels.{TestsRows}
use Rattle.vx_eval.proofs.truths.mask_of.Given as goal

abbrev pub invariant-loop-i : goal.invariant-loop-i
invariant-loop-i g l = (h : ℕ → Datum) → TestsRows (λ i b. goal.F-post g l.f i b) l.count h → l.bits.items ≡ map is_true (each_row l.i h)
