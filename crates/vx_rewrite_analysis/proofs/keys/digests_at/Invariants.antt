use Rattle.std.proofs.Common.{◌≡◌, take, map, get_or}
use Rattle.vx_rewrite_analysis.proofs.keys.digests_at.Given as goal

-- the digests of the numbers so far
abbrev pub invariant-loop-number : goal.invariant-loop-number
invariant-loop-number l = l.below.items ≡ map (λ k. get_or l.digests k 0) (take l.number-index l.numbers)
