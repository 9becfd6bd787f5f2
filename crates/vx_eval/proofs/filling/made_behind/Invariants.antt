use Rattle.std.proofs.Common.{◌≡◌, ◌++◌, ℕ}
use Rattle.vx_value.specs.Types.{Datum}
use Rattle.vx_eval.specs.Columns.{values_of, each_row}
use Rattle.vx_eval.specs.Kernels.{AnswersRows}
use Rattle.vx_eval.proofs.filling.made_behind.Given as goal

abbrev pub invariant-loop-i : goal.invariant-loop-i
invariant-loop-i g l = (h : ℕ → Datum) → AnswersRows (λ i r. goal.F-post g l.f i r) l.count h → values_of l.values.items ≡ values_of l.fn.values.items ++ each_row l.i h
