use Rattle.std.proofs.Common.{ap, ◌∙◌}
use Rattle.vx_value.specs.Types.{utf8}
use Rattle.vx_array.proofs.Reading.{value_of-Utf8, value_of-Null, text_read, no_text_read}
use Rattle.vx_array.proofs.values.text_of.Goals as goal

pub returns-in_ok-from_str-in-Ok : goal.returns-in_ok-from_str-in-Ok
returns-in_ok-from_str-in-Ok c = value_of-Utf8 c.in_ok-from_str-in-Ok.field-0 ∙ ap utf8 (c.in_ok-from_str-in-Ok.ensures.ok ∙ c.in-Ok.ensures.cases.0) ∙ text_read c.args.bytes.now c.in-Ok.ensures.cases.1

pub returns-in-Err : goal.returns-in-Err
returns-in-Err c = value_of-Null ∙ no_text_read c.args.bytes.now c.in-Err.ensures.cases.0
