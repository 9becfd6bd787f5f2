use Rattle.vx_fn.specs.Views.{operation_of}
use Rattle.vx_build.specs.Rounds.{paired_by}
use Rattle.vx_build.proofs.RoundLoops.{RoundGoes}
use Rattle.vx_build.proofs.rounds.round.Given as goal

abbrev pub invariant-loop-lhs : goal.invariant-loop-lhs
invariant-loop-lhs g l = RoundGoes g.T.TreeNode.seen (paired_by g.T.TreeNode.over (operation_of l.operator)) l.fn.items.items l.left.items l.items.rest.items

abbrev pub decreases-loop-lhs : goal.decreases-loop-lhs
decreases-loop-lhs g l = l.items.rest.len
