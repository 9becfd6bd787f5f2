use Rattle.std.proofs.Common.{◌≡◌, ◌∙◌, rules, Err, ap, string_bytes, sym, subst}
use Rattle.std.specs.Prelude.{IfErr, option_map}
use Rattle.vx_value.specs.Views.{type_of}
use Rattle.vx_tree.specs.Views.{bound_of, tree_of}
use Rattle.vx_sql_plan.specs.Pushdown.{tree_in}
use Rattle.vx_command_pages.specs.SqlPages.{IsSqlError}
use Rattle.vx_command_pages.specs.declared.sql.SqlError.TheVariants.{Query}
use Rattle.vx_command_pages.proofs.Statements.{told, untold, handed_on}
use Rattle.vx_command_pages.proofs.Told.{told as refusal_told}
use Rattle.vx_command_pages.proofs.sql.plan_written.Goals as goal

pub returns-clause-lines : goal.returns-clause-lines
returns-clause-lines c =
    let plan = c.in_ok-plan.plan.value in
    told c.args.query.now.expression.now c.args.query.now.schema.now (tree_of c.deref.result.now.expression) (type_of c.deref-2.result.now) (rw (c.deref.ensures, c.deref-2.ensures) c.in_ok-read.ensures.read) (rw c.deref-2.ensures c.in_ok-read.ensures.scope)
    (type_of plan.scope) (bound_of plan.tree) c.in_ok-plan.ensures.planned c.args.query.now.dialect c.args.query.now.table.now (type_of c.scope.result.now) (bound_of c.tree.result.now)
    (ap type_of (c.scope.ensures ∙ ap (λ p. p.scope) c.deref-4.ensures)) (ap bound_of (c.tree.ensures ∙ ap (λ p. p.tree) c.deref-3.ensures))
    (string_bytes c.in_ok-sql.sql.statement) (option_map tree_in c.in_ok-sql.sql.residual) c.in_ok-sql.ensures.1 c.in_ok-sql.ensures.2

pub returns-in_err-sql-clause-error : goal.returns-in_err-sql-clause-error
returns-in_err-sql-clause-error c =
    let plan = c.in_ok-plan.plan.value in
    let is = untold c.args.query.now.expression.now c.args.query.now.schema.now (tree_of c.deref.result.now.expression) (type_of c.deref-2.result.now) (rw (c.deref.ensures, c.deref-2.ensures) c.in_ok-read.ensures.read) (rw c.deref-2.ensures c.in_ok-read.ensures.scope)
    (type_of plan.scope) (bound_of plan.tree) c.in_ok-plan.ensures.planned c.args.query.now.dialect c.args.query.now.table.now (type_of c.scope.result.now) (bound_of c.tree.result.now)
    (ap type_of (c.scope.ensures ∙ ap (λ p. p.scope) c.deref-4.ensures)) (ap bound_of (c.tree.ensures ∙ ap (λ p. p.tree) c.deref-3.ensures))
    c.in_err-sql.field-0.0 c.in_err-sql.ensures in
    handed_on c.args.query.now.expression.now c.args.query.now.schema.now c.args.query.now.dialect c.args.query.now.table.now c.from_residual-in_err-sql.result c.in_err-sql.field-0.0 c.from_residual-in_err-sql.ensures.1 is

pub returns-in_err-plan-clause-error : goal.returns-in_err-plan-clause-error
returns-in_err-plan-clause-error c =
    let query = c.args.query.now in
    let text = query.expression.now in
    let schema = query.schema.now in
    let error = c.in_err-plan.field-0.0 in
    let is : c.from_residual-in_err-plan.result ≡ Err (Query error) = search rules in
    subst (λ r. IfErr r (λ e. IsSqlError text schema query.dialect query.table.now e)) (sym is)
    (refusal_told text schema c.deref.result.now (type_of c.deref-2.result.now) error (rw (c.deref.ensures, c.deref-2.ensures) c.in_ok-read.ensures.read) (rw c.deref-2.ensures c.in_ok-read.ensures.scope)
    c.in_err-plan.ensures.error c.in_err-plan.ensures.place)
