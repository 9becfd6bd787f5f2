use Rattle.std.proofs.Common.{◌≡◌, ℕ, ◌<◌, get_or, false, true}
use Rattle.vx_data_buffers.proofs.validity.are_all.Given as goal

abbrev pub invariant-loop-k : goal.invariant-loop-k
invariant-loop-k l = (k : ℕ) → k < l.k → get_or l.bits k false ≡ true
