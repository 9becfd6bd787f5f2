use Rattle.std.proofs.Common.{◌≡◌, rules, Err, sym, subst}
use Rattle.std.specs.Prelude.{IfErr}
use Rattle.vx_value.specs.Views.{type_of}
use Rattle.vx_command_pages.specs.Inputs.{IsCommandError}
use Rattle.vx_command_pages.proofs.Told.{told}
use Rattle.vx_command_pages.proofs.graph.graph_page.Goals as goal

pub returns-in_err-bound : goal.returns-in_err-bound
returns-in_err-bound c =
    let text = c.args.expression.now in
    let schema = c.args.schema.now in
    let error = c.in_err-bound.field-0.0 in
    let is : c.from_residual-in_err-bound.result ≡ Err error = search rules in
    subst (λ r. IfErr r (λ e. IsCommandError text schema e)) (sym is)
    (told text schema c.deref.result.now (type_of c.deref-2.result.now) error (rw (c.deref.ensures, c.deref-2.ensures) c.in_ok-query.ensures.read) (rw c.deref-2.ensures c.in_ok-query.ensures.scope)
    c.in_err-bound.ensures.error c.in_err-bound.ensures.place)
