use Rattle.std.proofs.Common.{◌≡◌, rules, subst, sym}
use Rattle.std.specs.Prelude.{Err}
use Rattle.vx_dtype.specs.Returns.{ReturnsOrOom}
use Rattle.vx_tree.specs.Views.{tree_of}
use Rattle.vx_forms.specs.Applied.{application}
use Rattle.vx_forms.proofs.Application.{application_evaluated, application_refused}
use Rattle.vx_forms.proofs.applied.apply.Goals as goal

pub returns-in_err-bound : goal.returns-in_err-bound
returns-in_err-bound c =
    let failed : c.from_residual.result ≡ Err c.in_err-bound.field-0.0 = search rules in
    subst (λ r. ReturnsOrOom (λ x. x) r (application (tree_of c.args.expr.now) c.args.batch.now)) (sym failed)
    (application_refused (tree_of c.args.expr.now) c.args.batch.now _ _ c.dtype.ensures c.in_err-bound.ensures.typed)

pub returns : goal.returns
returns c = application_evaluated _ c.args.batch.now _ _ _ c.dtype.ensures c.in_ok-bound.ensures.well_typed c.in_ok-bound.ensures.over c.apply_bound.ensures.meaning
