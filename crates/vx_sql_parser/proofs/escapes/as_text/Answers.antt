use Rattle.std.proofs.Common.{Some, sym, ap, ◌∙◌}
use Rattle.vx_sql_parser.proofs.ByteTexts.{utf8_is, utf8_isnt}
use Rattle.vx_sql_parser.proofs.escapes.as_text.Goals as goal

pub returns-in-Ok : goal.returns-in-Ok
returns-in-Ok c = ap Some c.in-Ok.ensures.cases.0 ∙ sym (utf8_is c.args.bytes.now c.in-Ok.ensures.cases.1)

pub returns-in-Err : goal.returns-in-Err
returns-in-Err c = sym (utf8_isnt c.args.bytes.now c.in-Err.ensures.cases.0)
