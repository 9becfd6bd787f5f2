use Rattle.vx_eval.proofs.Masked.{split_more}
use Rattle.vx_eval.proofs.choice.split.Goals as goal

pub loop-condition-preserved : goal.loop-condition-preserved
loop-condition-preserved c =
    split_more _ _ _ _ _ _ _ _ _ _ _ _ _ _ c.loop-condition.invariant c.in-Some.ensures.cases.0 c.in-Some-next.ensures.cases.0 c.in_ok-own_rows-in-Some-next.ensures.own c.in_ok-own_rows-in-Some-next.ensures.left
    c.in_ok-push-in-Some-next.ensures.items c.in_ok-push-in-Some-next-2.ensures.items
