use Rattle.std.proofs.Common.{◌≡◌, rules, Err, sym, subst}
use Rattle.std.specs.Prelude.{IfErr}
use Rattle.vx_value.specs.Views.{type_of}
use Rattle.vx_tree.specs.Views.{tree_of}
use Rattle.vx_command_pages.specs.Inputs.{ReadsAs, ReadsType, IsCommandError}
use Rattle.vx_command_pages.proofs.Told.{told}
use Rattle.vx_ffi_plan.proofs.kept.planned.Goals as goal

pub returns-in_err-plan-clause-error : goal.returns-in_err-plan-clause-error
returns-in_err-plan-clause-error c =
    let text = c.args.expression.now in
    let schema = c.args.schema.now in
    let placed = c.deref.result.now in
    let scope = type_of c.deref-2.result.now in
    let error = c.in_err-plan.field-0.0 in
    let reads : ReadsAs text scope (tree_of placed.expression) = search rules in
    let typed : ReadsType schema scope = search rules in
    let is : c.from_residual-in_err-plan.result ≡ Err error = search rules in
    subst (λ r. IfErr r (IsCommandError text schema)) (sym is) (told text schema placed scope error reads typed c.in_err-plan.ensures.error c.in_err-plan.ensures.place)
