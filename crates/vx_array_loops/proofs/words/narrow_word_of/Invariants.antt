use Rattle.std.proofs.Common.{◌≡◌, ◌<◌, ◌+◌, ◌==◌, ℕ, Bool, get_or, length}
use Rattle.vx_array_loops.proofs.words.narrow_word_of.Given as goal

abbrev pub invariant-loop-i : goal.invariant-loop-i
invariant-loop-i g l = record {
  long : length l.block ≡ 64;
  each : (k : ℕ) (b : Bool) → k < l.i → b ≡ (get_or l.block k 0 == 1) → goal.F-post g l.f (l.from + k) b;
}
