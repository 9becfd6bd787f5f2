use Rattle.std.proofs.Common.{Ok, ap, arith}
use Rattle.vx_eval_masks.proofs.Limits.{over_limit, none_left}
use Rattle.vx_eval_masks.proofs.choice.prefer_runs.Goals as goal

pub returns-in-None : goal.returns-in-None
returns-in-None c = ap Ok (over_limit c.args.branches.now c.loop-branch.branch-index c.loop-branch.left c.args.row_count c.branch-item.result (omega arith) c.branch-item.is c.loop-branch.invariant (none_left _ _ c.in-None.ensures))
