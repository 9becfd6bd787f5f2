use Rattle.std.proofs.Common.{◌∙◌, ap, get_or, length, ltb}
use Rattle.vx_command_pages.proofs.SpansBelow.{at_end, at_child, at_none}
use Rattle.vx_command_pages.proofs.spans.+span_at.Goals as goal

pub returns-in_default : goal.returns-in_default
returns-in_default t c = c.own_span.ensures ∙ at_end c.args.path.now c.args.places.now c.in_default.len_below

pub returns-in-Some : goal.returns-in-Some
returns-in-Some t c =
    let i = get_or c.args.path.now 0 0 in
    c.span_at.ensures
    ∙ at_child c.args.path.now c.args.places.now c.in-Some.child.now c.in-len1-up.len_at_least
    (c.in-Some.ensures.lookup.0 ∙ ap (λ cs. ltb i (length cs)) c.deref.ensures.value)
    (c.in-Some.ensures.lookup.1 ∙ ap (λ cs. get_or cs i c.in-Some.child.now) c.deref.ensures.value)

pub returns-in-None : goal.returns-in-None
returns-in-None t c =
    c.own_span-in-None.ensures
    ∙ at_none c.args.path.now c.args.places.now c.in-len1-up.len_at_least (c.in-None.ensures.lookup.0 ∙ ap (λ cs. ltb (get_or c.args.path.now 0 0) (length cs)) c.deref.ensures.value)
