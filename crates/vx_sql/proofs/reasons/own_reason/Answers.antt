use Rattle.std.proofs.Common.{sym, ◌∙◌}
use Rattle.vx_sql.proofs.NodeReasons.{own_reason-count, own_reason-type, own_reason-function}
use Rattle.vx_sql.proofs.reasons.own_reason.Goals as goal

pub returns-then-children-arity : goal.returns-then-children-arity
returns-then-children-arity c = own_reason-count _ _ _ c.args.children.now (λ e. c.if-children-arity.true (e ∙ sym c.arity.ensures))

pub returns-in-Some : goal.returns-in-Some
returns-in-Some c = own_reason-type _ _ _ c.args.children.now _ (c.if-children-arity.false ∙ c.arity.ensures) (sym c.type_reason.ensures ∙ c.in-Some.is)

pub returns : goal.returns
returns c = own_reason-function _ _ _ c.args.children.now _ (c.if-children-arity.false ∙ c.arity.ensures) (sym c.type_reason.ensures ∙ c.in_default.is) c.function_reason.ensures
