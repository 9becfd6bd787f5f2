use Rattle.std.proofs.Common.{rules, ap, sym, ◌∙◌}
use Rattle.vx_eval_like.specs.Patterns.{parts_view}
use Rattle.vx_eval_like.proofs.Reaching.{reaches-more, reaches-end}
use Rattle.vx_eval_like.proofs.walk.run.Goals as goal

pub loop-part-preserved : goal.loop-part-preserved
loop-part-preserved c =
    (search rules, reaches-more _ _ _ _ _ _ _ _ (ap parts_view c.in-Some.ensures.cases.0) c.in-Some-split_first.ensures (sym c.takes.ensures ∙ c.if-takes.true) c.loop-part.invariant.1)

pub returns-then-is_empty : goal.returns-then-is_empty
returns-then-is_empty c =
    reaches-end c.args.ignore_case _ _ _ _ c.loop-part.invariant.0 c.in_default.ensures.cases c.loop-part.invariant.1 ∙ (sym c.is_empty.ensures ∙ c.if-is_empty.true)

pub returns-else-is_empty : goal.returns-else-is_empty
returns-else-is_empty c =
    reaches-end c.args.ignore_case _ _ _ _ c.loop-part.invariant.0 c.in_default.ensures.cases c.loop-part.invariant.1 ∙ (sym c.is_empty.ensures ∙ c.if-is_empty.false)
