use Rattle.std.proofs.Common.{◌≡◌, ◌<◌, ◌≤◌, ℕ, get_or}
use Rattle.vx_array_loops.proofs.words.combine_words.Given as goal

abbrev pub invariant-loop-j : goal.invariant-loop-j
invariant-loop-j g l = record {
  done : (k w : ℕ) → k < l.j → w ≡ get_or l.words k 0 → goal.F-post g l.f (get_or l.initial.words k 0) (get_or l.others k 0) w;
  left : (k : ℕ) → l.j ≤ k → get_or l.words k 0 ≡ get_or l.initial.words k 0;
}
