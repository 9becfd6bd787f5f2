use Rattle.std.proofs.Common.{ap}
use Rattle.vx_value.specs.Types.{is_null_datum}
use Rattle.vx_array.proofs.Reading.{text_read, no_text_read}
use Rattle.vx_array.proofs.nulls.is_no_text.Goals as goal

pub returns-in-Ok : goal.returns-in-Ok
returns-in-Ok c = ap is_null_datum (text_read c.args.bytes.now c.in-Ok.ensures.cases.1)

pub returns-in-Err : goal.returns-in-Err
returns-in-Err c = ap is_null_datum (no_text_read c.args.bytes.now c.in-Err.ensures.cases.0)
