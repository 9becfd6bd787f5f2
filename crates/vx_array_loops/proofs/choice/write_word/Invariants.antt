use Rattle.std.proofs.Common.{◌≡◌, ◌<◌, ◌≤◌, ◌+◌, ℕ, true, false, get_or}
use Rattle.vx_array_loops.specs.WordBits.{bit_of}
use Rattle.vx_array_loops.proofs.choice.write_word.Given as goal

abbrev pub invariant-loop-i : goal.invariant-loop-i
invariant-loop-i g l = record {
  on : (k : ℕ) (x : g.row.T.Denot) → k < l.i → bit_of l.word k ≡ true → x ≡ get_or l.rows (l.from + k) x → goal.F-post g l.f (l.from + k) x;
  off : (k : ℕ) (x : g.row.T.Denot) → k < l.i → bit_of l.word k ≡ false → x ≡ get_or l.rows (l.from + k) x → x ≡ get_or l.initial.rows (l.from + k) x;
  before : (k : ℕ) (x : g.row.T.Denot) → k < l.from → x ≡ get_or l.rows k x → x ≡ get_or l.initial.rows k x;
  behind : (k : ℕ) (x : g.row.T.Denot) → l.from + l.i ≤ k → x ≡ get_or l.rows k x → x ≡ get_or l.initial.rows k x;
}
