use Rattle.std.proofs.Common.{◌≡◌, ◌<◌, ◌*◌, ℕ, Bool}
use Rattle.vx_array_loops.specs.WordBits.{bit}
use Rattle.vx_array_loops.proofs.words.write_words.Given as goal

abbrev pub invariant-loop-j : goal.invariant-loop-j
invariant-loop-j g l = (k : ℕ) (b : Bool) → k < 64 * l.j → b ≡ bit l.words k → goal.F-post g l.f k b
