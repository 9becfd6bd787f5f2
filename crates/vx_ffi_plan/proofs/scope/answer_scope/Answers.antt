use Rattle.std.proofs.Common.{ap, ◌∙◌}
use Rattle.vx_value.specs.Views.{type_of}
use Rattle.vx_scan.specs.declared.planned.ScanPlan.{ScanPlan}
use Rattle.vx_ffi_plan.proofs.Printed.{printed}
use Rattle.vx_ffi_plan.proofs.scope.answer_scope.Goals as goal

pub returns : goal.returns
returns c =
    let same = ap type_of (c.scope.ensures ∙ ap (λ (plan : ScanPlan). plan.scope) c.deref.ensures) in
    (c.type_page.result, printed _ _ _ same c.type_page.ensures.prints, c.type_page.ensures.stop, c.ended.ensures)
