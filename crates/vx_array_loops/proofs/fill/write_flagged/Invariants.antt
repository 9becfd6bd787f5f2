use Rattle.std.proofs.Common.{◌≡◌, ◌<◌, ℕ, Bool, true, false, get_or}
use Rattle.vx_array_loops.proofs.fill.write_flagged.Given as goal

abbrev pub invariant-loop-i : goal.invariant-loop-i
invariant-loop-i g l = record {
  each : (k : ℕ) (x : g.row.T.Denot) → k < l.i → x ≡ get_or l.rows k x → (raised : Bool) × goal.F-post g l.f k (x, raised);
  clear : l.raised ≡ false → (k : ℕ) (x : g.row.T.Denot) → k < l.i → x ≡ get_or l.rows k x → goal.F-post g l.f k (x, false);
  raised : l.raised ≡ true → (k : ℕ) × (x : g.row.T.Denot) × (k < l.i) × goal.F-post g l.f k (x, true);
}
