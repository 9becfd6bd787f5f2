use Rattle.vx_ffi_calls.specs.RowStops.{IsVerdictError}
use Rattle.vx_ffi_calls.proofs.Told.{told_of}
use Rattle.vx_ffi_calls.proofs.verdicts.judged.Goals as goal

pub returns-in-Err-clause-stop : goal.returns-in-Err-clause-stop
returns-in-Err-clause-stop c = told_of IsVerdictError _ _ _ _ c.in-Err.error _ c.in_ok-expression.ensures.text c.in_ok-schema.ensures.text c.in-Err.ensures.error c.rows_stop.ensures
