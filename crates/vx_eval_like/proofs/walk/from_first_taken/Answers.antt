use Rattle.std.proofs.Common.{rules, sym, ◌∙◌}
use Rattle.vx_eval_like.proofs.Reaching.{rests-past}
use Rattle.vx_eval_like.proofs.walk.from_first_taken.Goals as goal

pub loop-c-preserved : goal.loop-c-preserved
loop-c-preserved c =
    (search rules, (λ ps. rests-past _ ps _ _ _ _ c.in-Some.ensures (sym c.is_any_text.ensures ∙ c.if-is_any_text.false) (sym c.takes.ensures ∙ c.if-takes.false) (c.loop-c.invariant.1 ps)), search rules)
