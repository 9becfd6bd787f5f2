use Rattle.std.proofs.Common.{ap, ◌∙◌}
use Rattle.vx_tree.specs.declared.bound.BoundExpression.{BoundExpression}
use Rattle.vx_tree.specs.Trees.{node_type}
use Rattle.vx_tree.specs.Views.{bound_of}
use Rattle.vx_scan.specs.declared.planned.ScanPlan.{ScanPlan}
use Rattle.vx_ffi_plan.proofs.Printed.{printed}
use Rattle.vx_ffi_plan.proofs.scope.answer_type.Goals as goal

pub returns : goal.returns
returns c =
    let tree = c.tree.ensures ∙ ap (λ (plan : ScanPlan). plan.tree) c.deref.ensures in
    let same = c.dtype.ensures ∙ ap (λ (u : BoundExpression). node_type (bound_of u)) tree in
    (c.type_page.result, printed _ _ _ same c.type_page.ensures.prints, c.type_page.ensures.stop, c.ended.ensures)
