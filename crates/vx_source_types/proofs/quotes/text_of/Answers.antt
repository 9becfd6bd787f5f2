use Rattle.std.proofs.Common.{sym, ap, ◌∙◌}
use Rattle.vx_source_types.specs.Tokens.{text}
use Rattle.vx_source_types.proofs.Quoting.{text_of_utf8, text_of_others}
use Rattle.vx_source_types.proofs.quotes.text_of.Goals as goal

pub returns-in_ok-from_str-in-Ok : goal.returns-in_ok-from_str-in-Ok
returns-in_ok-from_str-in-Ok c =
    ap text (c.in_ok-from_str-in-Ok.ensures.ok ∙ c.in-Ok.ensures.cases.0) ∙ sym (text_of_utf8 c.args.wanted c.args.made.now c.in-Ok.ensures.cases.1)

pub returns-in-Err : goal.returns-in-Err
returns-in-Err c = sym (text_of_others c.args.wanted c.args.made.now c.in-Err.ensures.cases.0)
