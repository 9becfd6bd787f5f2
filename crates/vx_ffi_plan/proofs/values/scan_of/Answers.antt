use Rattle.vx_ffi_plan.proofs.Given.{given}
use Rattle.vx_ffi_plan.proofs.values.scan_of.Goals as goal

pub returns : goal.returns
returns c = given _ _ _ _ c.args.batch.now c.new-reader.result.batch.now c.scan_array.result c.new-reader.ensures.batch c.scan_array.ensures.mismatch c.scan_array.ensures.evaluated c.scan_array.ensures.meaning c.scan_array.ensures.faults c.scan_array.ensures.typed
