use Rattle.std.proofs.Common.{◌≡◌, ◌++◌, map}
use Rattle.vx_rewrite_analysis.proofs.reached.put_next.Given as goal

-- the numbers so far wait behind those that waited
abbrev pub invariant-loop-number : goal.invariant-loop-number
invariant-loop-number l = l.waiting.items ≡ l.fn.waiting.items ++ map (λ b. b.now) l.yielded
