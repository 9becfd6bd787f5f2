use Rattle.vx_ffi_plan.proofs.Ended.{made, stopped}
use Rattle.vx_ffi_plan.proofs.made.answer_new.Goals as goal

pub returns-in-Ok : goal.returns-in-Ok
returns-in-Ok c = rw c.of.ensures (made c.args.query.now.expression.now c.args.query.now.schema.now _ _ _ _ c.in-Ok.kept.value c.new.result c.in-Ok.ensures.kept c.new.ensures.items c.ended.ensures)

pub returns-in-Err : goal.returns-in-Err
returns-in-Err c = rw c.free_plan.ensures (stopped c.args.query.now.expression.now c.args.query.now.schema.now _ _ _ _ c.in-Err.stop c.in-Err.ensures.stop c.ended-in-Err.ensures)
