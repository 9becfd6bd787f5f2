use Rattle.std.proofs.Common.{◌≡◌, ◌<◌, ◌==◌, ℕ, Bool, get_or, length}
use Rattle.vx_array_loops.specs.WordBits.{bit_of}
use Rattle.vx_array_loops.proofs.choice.spread.Given as goal

abbrev pub invariant-loop-i : goal.invariant-loop-i
invariant-loop-i l = record {
  long : length l.bytes ≡ 64;
  each : (k : ℕ) (b : Bool) → k < l.i → b ≡ (get_or l.bytes k 0 == 1) → b ≡ bit_of l.word k;
}
