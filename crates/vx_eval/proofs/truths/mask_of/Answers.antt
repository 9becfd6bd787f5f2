use Rattle.std.proofs.Common.{arith}
use Rattle.vx_eval.proofs.Trues.{true_pushed}
use Rattle.vx_eval.proofs.truths.mask_of.Goals as goal

pub loop-i-preserved : goal.loop-i-preserved
loop-i-preserved g c = λ h by. true_pushed h _ _ _ _ (c.loop-i.invariant h by) c.in_ok-push.ensures.items (by _ _ (omega arith) c.f.ensures)
