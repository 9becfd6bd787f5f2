use Rattle.std.proofs.Common.{◌≡◌, ◌+◌, length, take}
use Rattle.vx_eval_masks.specs.Choices.{runs_together, run_limit, masks_in}
use Rattle.vx_eval_masks.proofs.choice.prefer_runs.Given as goal

abbrev pub invariant-loop-branch : goal.invariant-loop-branch
invariant-loop-branch l = l.left + runs_together (masks_in (take l.branch-index l.branches)) ≡ run_limit (length l.branches) l.row_count
