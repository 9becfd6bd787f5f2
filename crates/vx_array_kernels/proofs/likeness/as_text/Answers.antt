use Rattle.std.proofs.Common.{◌∙◌, ap}
use Rattle.vx_value.specs.Types.{utf8}
use Rattle.vx_array.proofs.Reading.{no_text_read, text_read}
use Rattle.vx_array_kernels.proofs.likeness.as_text.Goals as goal

pub returns-in-Ok : goal.returns-in-Ok
returns-in-Ok c = ap utf8 c.in-Ok.ensures.cases.0 ∙ text_read c.args.bytes.now c.in-Ok.ensures.cases.1

pub returns-in-Err : goal.returns-in-Err
returns-in-Err c = no_text_read c.args.bytes.now c.in-Err.ensures.cases.0
