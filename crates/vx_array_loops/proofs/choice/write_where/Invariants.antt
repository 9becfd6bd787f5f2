use Rattle.std.proofs.Common.{◌≡◌, ◌<◌, ◌≤◌, ◌*◌, ℕ, true, false, get_or}
use Rattle.vx_array_loops.proofs.choice.write_where.Given as goal

abbrev pub invariant-loop-j : goal.invariant-loop-j
invariant-loop-j g l = record {
  on : (k : ℕ) (x : g.row.T.Denot) → k < 64 * l.j → get_or l.mask k false ≡ true → x ≡ get_or l.rows k x → goal.F-post g l.f k x;
  off : (k : ℕ) (x : g.row.T.Denot) → k < 64 * l.j → get_or l.mask k false ≡ false → x ≡ get_or l.rows k x → x ≡ get_or l.initial.rows k x;
  left : (k : ℕ) (x : g.row.T.Denot) → 64 * l.j ≤ k → x ≡ get_or l.rows k x → x ≡ get_or l.initial.rows k x;
}
