-- A plan's statement, and what is left of its tree, are told of the expression and the type that were read.
use Rattle.std.proofs.Common.{◌≡◌, ℕ, List, Option, Result, Ok, Err, refl}
use Rattle.std.specs.Result.{IfErr, IsErrAnd}
use Rattle.vx_value.specs.Types.{Name, LogicalType}
use Rattle.vx_tree.specs.Trees.{Tree, BoundTree}
use Rattle.vx_rewrite_rule_laws.specs.Folding.{FoldingRuleAt}
use Rattle.vx_scan.specs.Plans.{IsPlanFor}
use Rattle.vx_sql.specs.declared.dialect.Dialect.{Dialect}
use Rattle.vx_sql_plan.specs.declared.refusal.NoStatement.{NoStatement}
use Rattle.vx_sql_plan.specs.Pushdown.{residual}
use Rattle.vx_sql_plan.specs.Statements.{statement, statement_refusal, IsRefusalOf}
use Rattle.vx_command_pages.specs.Inputs.{ReadsAs, ReadsType}
use Rattle.vx_command_pages.specs.SqlPages.{lines_of, IsSqlPage, IsUnwritten, IsSqlError}
use Rattle.vx_command_pages.specs.declared.sql.SqlError.{SqlError}
use Rattle.vx_command_pages.specs.declared.sql.SqlError.TheVariants.{Statement}

-- where the code has the plan's type and tree once more, as it hands them on
module _ (text schema : List ℕ) (e : Tree) (s : LogicalType) (read : ReadsAs text s e) (typed : ReadsType schema s) (t : LogicalType) (u : BoundTree) (plan : IsPlanFor FoldingRuleAt e s t u)
    (d : Dialect) (table : Name) (t' : LogicalType) (u' : BoundTree) (type : t' ≡ t) (tree : u' ≡ u) where
  pub told : (said : List ℕ) (left : Option BoundTree) → said ≡ statement d t' u' table → left ≡ residual d u' → IsSqlPage text schema d table (lines_of said left)
  told said left a b = (e, s, read, typed, (u, (refl, plan.1), rw (a, b, type, tree, ← plan.0) refl))

  pub untold : (refusal : NoStatement) → IsRefusalOf (statement_refusal d t' u' table) refusal → IsUnwritten text schema d table refusal
  untold refusal r = (e, s, read, typed, (u, (refl, plan.1), rw (← plan.0, ← type, ← tree) r))

-- what is handed on is an error of the command
pub handed_on : {A : Type 0} (text schema : List ℕ) (d : Dialect) (table : Name) (r : Result A SqlError) (refusal : NoStatement) → IsErrAnd r (λ e. e ≡ Statement refusal) → IsUnwritten text schema d table refusal → IfErr r (λ e. IsSqlError text schema d table e)
handed_on text schema d table (Ok a) refusal h is = tt
handed_on text schema d table (Err e) refusal h is = rw h is
