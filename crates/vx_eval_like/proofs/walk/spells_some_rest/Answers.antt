use Rattle.std.proofs.Common.{rules, ap, sym, ◌∙◌}
use Rattle.vx_fn.proofs.Patterns.{some_rest-all}
use Rattle.vx_eval_like.specs.Patterns.{characters, parts_view}
use Rattle.vx_eval_like.proofs.Reaching.{begun, some_rest-end, settled}
use Rattle.vx_eval_like.proofs.walk.spells_some_rest.Goals as goal

pub returns-in-AtEnd : goal.returns-in-AtEnd
returns-in-AtEnd c =
    sym (some_rest-all (parts_view c.loop-first.ahead.now) (characters c.args.ignore_case c.from_first_taken-begin.result.now) c.in-AtEnd.ensures)
    ∙ begun (parts_view c.loop-first.ahead.now) (parts_view c.args.parts.now) _ _ (characters c.args.ignore_case c.loop-first.begin.now) (characters c.args.ignore_case c.from_first_taken-begin.result.now) (characters c.args.ignore_case c.args.text.now) (ap parts_view c.in-Some.ensures.cases.0) (c.from_first_taken-begin.ensures.rests _) c.loop-first.invariant.1

pub loop-first-preserved-in-AtAnyText : goal.loop-first-preserved-in-AtAnyText
loop-first-preserved-in-AtAnyText c =
    (search rules, sym (settled _ _ _ _ c.in-AtAnyText.ensures) ∙ begun (parts_view c.loop-first.ahead.now) (parts_view c.args.parts.now) _ _ (characters c.args.ignore_case c.loop-first.begin.now) (characters c.args.ignore_case c.from_first_taken-begin.result.now) (characters c.args.ignore_case c.args.text.now) (ap parts_view c.in-Some.ensures.cases.0) (c.from_first_taken-begin.ensures.rests _) c.loop-first.invariant.1)

pub returns : goal.returns
returns c = sym (some_rest-end _ (characters c.args.ignore_case c.loop-first.begin.now) c.in_default.ensures.cases) ∙ c.loop-first.invariant.1
