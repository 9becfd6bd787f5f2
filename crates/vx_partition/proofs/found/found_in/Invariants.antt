use Rattle.std.proofs.Common.{◌≡◌, take}
use Rattle.vx_partition.specs.Found.{found_copied, found_of}
use Rattle.vx_partition.proofs.found.found_in.Given as goal

-- what the annotations so far have
abbrev pub invariant-loop-annotation : goal.invariant-loop-annotation
invariant-loop-annotation g l = found_copied l.found ≡ found_of g.A.PartialEq.eq (take l.annotation-index l.annotations)
