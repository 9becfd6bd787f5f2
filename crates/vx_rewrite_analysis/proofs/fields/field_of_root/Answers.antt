use Rattle.std.proofs.Common.{arith, sym, ap, ◌∙◌, Ok}
use Rattle.vx_rewrite_analysis.proofs.Reading.{field_of_root-other}
use Rattle.vx_rewrite_analysis.proofs.fields.field_of_root.Goals as goal

pub returns-in-len2-up : goal.returns-in-len2-up
returns-in-len2-up c = ap Ok (field_of_root-other c.args.name.now c.args.children.now (omega (arith, c.in-len2-up.len_at_least)) ∙ sym c.new-in-len2-up.ensures.items)
