use Rattle.std.proofs.Common.{◌≡◌, ◌≤◌, ◌<◌, ℕ, get_or, true, false}
use Rattle.vx_value.specs.Types.{Datum}
use Rattle.vx_eval_masks.specs.Merges.{values_of, each_row, AnswersIn}
use Rattle.vx_eval_masks.proofs.pushing.push_with.Given as goal

abbrev pub invariant-loop-i : goal.invariant-loop-i
invariant-loop-i g l = record {
  on : (k : ℕ) → l.from ≤ k → k < l.i → get_or l.mask k false ≡ true;
  rows : (h : ℕ → Datum) → AnswersIn (λ i r. goal.F-post g l.f i r) l.mask l.from h → values_of l.fn.rows.items ≡ each_row l.from h → values_of l.rows.items ≡ each_row l.i h;
}
