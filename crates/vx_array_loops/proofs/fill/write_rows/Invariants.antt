use Rattle.std.proofs.Common.{◌≡◌, ◌<◌, ℕ, get_or}
use Rattle.vx_array_loops.proofs.fill.write_rows.Given as goal

abbrev pub invariant-loop-i : goal.invariant-loop-i
invariant-loop-i g l = (k : ℕ) (x : g.row.T.Denot) → k < l.i → x ≡ get_or l.rows k x → goal.F-post g l.f k x
