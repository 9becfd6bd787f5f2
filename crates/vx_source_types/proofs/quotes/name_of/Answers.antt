use Rattle.std.proofs.Common.{◌≡◌, Ok, sym, ap, ◌∙◌}
use Rattle.vx_source_types.specs.Tokens.{quoted}
use Rattle.vx_source_types.proofs.Quoting.{quoted_of_utf8, quoted_of_others}
use Rattle.vx_source_types.proofs.quotes.name_of.Goals as goal

pub returns-in_default : goal.returns-in_default
returns-in_default c = sym (quoted_of_others c.args.made.now c.in_default.ensures.cases.0)

pub returns-in-Ok-new : goal.returns-in-Ok-new
returns-in-Ok-new c =
    let named : Ok c.in-Ok.text.now ≡ Ok c.in-Ok-new.name = c.in-Ok-new.ensures in
    let name : c.in-Ok-new.name ≡ c.args.made.now = cc c.in-Ok.ensures.cases.0 in
    ap quoted name ∙ sym (quoted_of_utf8 c.args.made.now c.in-Ok.ensures.cases.1)
