use Rattle.std.proofs.Common.{◌≡◌, None, ℕ, length, get_or}
use Rattle.vx_rewrite_analysis.proofs.reached.no_answers.Given as goal

-- nothing stands at the places so far
abbrev pub invariant-loop-place : goal.invariant-loop-place
invariant-loop-place g l = record {
  count : length l.own.items ≡ l._place;
  none : (i : ℕ) → get_or l.own.items i None ≡ None;
}
