use Rattle.std.proofs.Common.{◌≡◌, ℕ, ◌<◌, get_or, map, pos, true}
use Rattle.vx_array_build.proofs.numbers.see_range.Given as goal

abbrev pub invariant-loop-i : goal.invariant-loop-i
invariant-loop-i g l = (k : ℕ) → k < l.i → g.T.Number.fits (get_or (map g.T.Number.number l.numbers) k (pos 0)) ≡ true
