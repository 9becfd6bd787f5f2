use Rattle.std.proofs.Common.{arith}
use Rattle.vx_eval.specs.Columns.{truth_datum}
use Rattle.vx_eval_masks.proofs.Writing.{row_pushed}
use Rattle.vx_eval.proofs.truths.told.Goals as goal

pub loop-i-preserved : goal.loop-i-preserved
loop-i-preserved g c = λ h by. row_pushed truth_datum h _ _ _ _ (c.loop-i.invariant h by) c.in_ok-push.ensures.items (by _ _ (omega arith) c.f.ensures)
