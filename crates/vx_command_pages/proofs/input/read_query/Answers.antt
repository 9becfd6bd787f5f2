use Rattle.std.proofs.Common.{◌≡◌, rules, ℕ, List, Err, inr, sym, subst}
use Rattle.std.specs.Prelude.{IfErr}
use Rattle.vx_value.specs.Types.{LogicalType}
use Rattle.vx_value.specs.Views.{type_of}
use Rattle.vx_command_pages.specs.declared.error.CommandError.{CommandError}
use Rattle.vx_command_pages.specs.declared.error.CommandError.TheVariants.{OutOfMemory, UnreadExpression, UnreadSchema, Unfit, Refused}
use Rattle.vx_command_pages.specs.Inputs.{ReadsType, IsRefusedOver, IsUnreadQuery}
use Rattle.vx_command_pages.proofs.input.read_query.Goals as goal

-- what is refused over the schema's type is unread
refused_over : (text schema : List ℕ) (s : LogicalType) (error : CommandError) → ReadsType schema s → IsRefusedOver text s error → IsUnreadQuery text schema error
refused_over text schema s OutOfMemory reads h = tt
refused_over text schema s (UnreadExpression at expected) reads h = inr (s, reads, h)
refused_over text schema s (UnreadSchema at expected) reads h = absurd h
refused_over text schema s (Unfit literal) reads h = (s, reads, h)
refused_over text schema s (Refused span refusal remedy) reads h = absurd h

pub returns-in_err-placed-clause-error : goal.returns-in_err-placed-clause-error
returns-in_err-placed-clause-error c =
    let text = c.args.expression.now in
    let schema = c.args.schema.now in
    let error = c.in_err-placed.field-0.0 in
    let reads : ReadsType schema (type_of c.deref.result.now) = search rules in
    let is : c.from_residual-in_err-placed.result ≡ Err error = search rules in
    subst (λ r. IfErr r (λ e. IsUnreadQuery text schema e)) (sym is)
    (refused_over text schema (type_of c.deref.result.now) error reads (c.in_err-placed.ensures.error text c.in_ok-written.ensures.written))
