use Rattle.vx_value.specs.Views.{type_of}
use Rattle.vx_data_buffers.specs.Bytes.{bytes_in}
use Rattle.vx_ffi_plan.proofs.Stopped.{no_batch}
use Rattle.vx_ffi_plan.proofs.batch.array_in.Goals as goal

pub returns-in-Err-clause-stop : goal.returns-in-Err-clause-stop
returns-in-Err-clause-stop c =
    no_batch c.args.plan.now c.args.batch.now.rows (bytes_in c.args.batch.now.buffers.now) (type_of c.in_ok-scope.field-0) c.in-Err.error c.buffer_stop.result c.in_ok-scope.ensures.scope c.buffer_stop.ensures c.in-Err.ensures
