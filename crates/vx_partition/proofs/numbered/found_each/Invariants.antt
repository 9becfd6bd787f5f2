use Rattle.std.proofs.Common.{◌≡◌, length}
use Rattle.vx_partition.specs.Gathered.{AreFound}
use Rattle.vx_partition.proofs.numbered.found_each.Given as goal

-- the numbers so far
abbrev pub invariant-loop-number : goal.invariant-loop-number
invariant-loop-number g l = record {
  count : length l.found.items ≡ l.number;
  found : AreFound g.A.PartialEq.eq l.nodes l.found.items;
}
