use Rattle.std.proofs.Common.{◌≡◌, take}
use Rattle.vx_tree.specs.Views.{bounds_of}
use Rattle.vx_rewrite_fusing.proofs.finding.copies.Given as goal

abbrev pub invariant-loop-b : goal.invariant-loop-b
invariant-loop-b l = bounds_of l.copied.items ≡ bounds_of (take l.b-index l.list)
