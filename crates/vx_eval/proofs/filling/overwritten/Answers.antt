use Rattle.std.proofs.Common.{arith}
use Rattle.std.proofs.lemmas.Grind.{common_steps}
use Rattle.vx_eval.proofs.Filled.{overwritten_more, overwritten_all}
use Rattle.vx_eval.proofs.filling.overwritten.Goals as goal

pub loop-i-preserved : goal.loop-i-preserved
loop-i-preserved g c = record {
  long = grind (arith, common_steps);
  written = λ h by. overwritten_more h _ _ _ c.replace-row.result _ _ (c.loop-i.invariant.written h by) (omega arith) (cc (c.replace-row.ensures.value, c.index_mut.ensures.value)) (by _ _ _ (omega arith) (rw c.replace.ensures.after c.in_ok-made.ensures));
}

pub returns-clause-rows : goal.returns-clause-rows
returns-clause-rows g c = λ h by. overwritten_all h _ _ _ (c.loop-i.invariant.written h by) (omega arith)
