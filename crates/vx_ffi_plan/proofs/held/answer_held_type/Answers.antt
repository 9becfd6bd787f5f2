use Rattle.std.proofs.Common.{◌∙◌}
use Rattle.vx_ffi_plan.proofs.Ended.{on_none, on_plan}
use Rattle.vx_ffi_plan.proofs.held.answer_held_type.Goals as goal

pub returns-in-Some-clause-ends : goal.returns-in-Some-clause-ends
returns-in-Some-clause-ends c = on_plan _ _ c.args.plan.now.plan _ _ _ _ c.in-Some.kept.value c.plan.result.now c.in-Some.ensures.plan (c.plan.ensures ∙ c.deref.ensures) c.answer_type-status.ensures

pub returns-in-None-clause-ends : goal.returns-in-None-clause-ends
returns-in-None-clause-ends c = on_none _ _ c.args.plan.now.plan _ _ _ _ c.planless.result c.in-None.ensures.plan c.planless.ensures c.ended.ensures
