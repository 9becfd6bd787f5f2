use Rattle.std.proofs.Common.{◌<◌}
use Rattle.vx_bench.proofs.subject.+visited.Given as goal

abbrev pub invariant-loop-child : goal.invariant-loop-child
invariant-loop-child l = 0 < l.nodes
