use Rattle.std.proofs.Common.{◌≡◌, take}
use Rattle.vx_array_merges.proofs.columns.branches_of.Given as goal

abbrev pub invariant-loop-branch : goal.invariant-loop-branch
invariant-loop-branch l = l.columns.items ≡ take l.branch-index l.branches
