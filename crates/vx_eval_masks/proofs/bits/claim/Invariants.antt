use Rattle.vx_eval_masks.proofs.Pairs.{Claimed}
use Rattle.vx_eval_masks.proofs.bits.claim.Given as goal

abbrev pub invariant-loop-i : goal.invariant-loop-i
invariant-loop-i l = Claimed l.fn.bits l.fn.rest l.i l.bits l.rest
