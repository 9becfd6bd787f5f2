use Rattle.std.proofs.Common.{length}
use Rattle.vx_fn.specs.Views.{operation_of}
use Rattle.vx_build.specs.Rounds.{paired_by}
use Rattle.vx_build.proofs.RoundLoops.{CollectGoes}
use Rattle.vx_build.proofs.rounds.collect.Given as goal

abbrev pub invariant-loop-alloc : goal.invariant-loop-alloc
invariant-loop-alloc g l = CollectGoes g.T.TreeNode.seen (paired_by g.T.TreeNode.over (operation_of l.operator)) l.fn.items.items l.left.items

abbrev pub decreases-loop-alloc : goal.decreases-loop-alloc
decreases-loop-alloc g l = length l.left.items
