use Rattle.std.proofs.Common.{◌≡◌, ◌<◌, ℕ, true, false, ◌||◌, get_or}
use Rattle.vx_tests.proofs.masks.covers.Given as goal

abbrev pub invariant-loop-i : goal.invariant-loop-i
invariant-loop-i l = (k : ℕ) → k < l.i → (get_or l.rest k false || (get_or l.first k false || (get_or l.second k false || false))) ≡ true
