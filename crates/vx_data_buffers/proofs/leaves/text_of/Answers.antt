use Rattle.std.proofs.Common.{◌∙◌, inr}
use Rattle.vx_data_buffers.proofs.Texts.{is_no_text, is_text_value}
use Rattle.vx_data_buffers.proofs.leaves.text_of.Goals as goal

pub returns-in_ok-from_str-in-Ok : goal.returns-in_ok-from_str-in-Ok
returns-in_ok-from_str-in-Ok c =
    is_text_value c.args.at c.args.bytes.now c.in_ok-from_str-in-Ok.field-0 c.in-Ok.ensures.cases.1 (c.in_ok-from_str-in-Ok.ensures.ok ∙ c.in-Ok.ensures.cases.0)

pub returns-in-Err : goal.returns-in-Err
returns-in-Err c = inr (is_no_text c.args.at c.args.bytes.now c.in-Err.ensures.cases.0)
