use Rattle.std.proofs.Common.{◌≡◌, ◌<◌, ℕ, get_or, true, false}
use Rattle.vx_eval_masks.proofs.bits.is_all.Given as goal

abbrev pub invariant-loop-i : goal.invariant-loop-i
invariant-loop-i l = (k : ℕ) → k < l.i → get_or l.bits k false ≡ true
