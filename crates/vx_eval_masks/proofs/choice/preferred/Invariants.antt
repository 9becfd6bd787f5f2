use Rattle.std.proofs.Common.{◌≡◌, ◌+◌, length, take}
use Rattle.vx_eval_masks.specs.Choices.{runs_together, run_limit}
use Rattle.vx_eval_masks.proofs.choice.preferred.Given as goal

abbrev pub invariant-loop-mask : goal.invariant-loop-mask
invariant-loop-mask l = l.left + runs_together (take l.mask-index l.masks) ≡ run_limit (length l.masks) l.row_count
