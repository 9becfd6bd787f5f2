use Rattle.std.proofs.Common.{◌≡◌, ℕ, map}
use Rattle.vx_value.specs.Types.{Datum}
use Rattle.vx_eval.specs.Columns.{truth_datum, each_row}
use Rattle.vx_eval.specs.Kernels.{TellsRows}
use Rattle.vx_eval.proofs.truths.told.Given as goal

abbrev pub invariant-loop-i : goal.invariant-loop-i
invariant-loop-i g l = (h : ℕ → Datum) → TellsRows (λ i t. goal.F-post g l.f i t) l.count h → map truth_datum l.truths.items ≡ each_row l.i h
