use Rattle.std.proofs.Common.{arith}
use Rattle.vx_eval_masks.proofs.Writing.{row_behind}
use Rattle.vx_value.specs.Views.{value_of}
use Rattle.vx_eval.proofs.filling.made_behind.Goals as goal

pub loop-i-preserved : goal.loop-i-preserved
loop-i-preserved g c = λ h by. row_behind value_of h _ _ _ _ _ (c.loop-i.invariant h by) c.in_ok-push.ensures.items (by _ _ (omega arith) c.in_ok-f.ensures)
