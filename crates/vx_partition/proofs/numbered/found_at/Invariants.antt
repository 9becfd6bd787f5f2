use Rattle.std.proofs.Common.{◌≡◌, take}
use Rattle.vx_rewrite_analysis.specs.Answered.{trees_of, given_by}
use Rattle.vx_partition.specs.Found.{found_copied, found_of}
use Rattle.vx_partition.specs.Gathered.{gathered_in}
use Rattle.vx_partition.proofs.numbered.found_at.Given as goal

-- what the children so far have together
abbrev pub invariant-loop-child : goal.invariant-loop-child
invariant-loop-child g l = found_copied l.found ≡ found_of g.A.PartialEq.eq (gathered_in (given_by l.nodes) (trees_of l.nodes (take l.child-index l.child-items)))
