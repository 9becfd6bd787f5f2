-- What the command `plan --sql` prints, and what stops it.
use Rattle.std.specs.Prelude.{◌≡◌, ◌++◌, ℕ, List, Option, Some, None, codes}
use Rattle.vx_value.specs.Types.{Name, LogicalType}
use Rattle.vx_tree.specs.Trees.{Tree, BoundTree, unbound}
use Rattle.vx_source_writer.specs.SourceTexts.{source}
use Rattle.vx_rewrite_rule_laws.specs.Folding.{FoldingRuleAt}
use Rattle.vx_scan.specs.Plans.{IsPlanFor}
use Rattle.vx_sql.specs.declared.dialect.Dialect.{Dialect}
use Rattle.vx_sql_plan.specs.declared.refusal.NoStatement.{NoStatement}
use Rattle.vx_sql_plan.specs.declared.refusal.NoStatement.TheVariants.{OutOfMemory, NoColumns, Table, Column}
use Rattle.vx_sql_plan.specs.Pushdown.{residual}
use Rattle.vx_sql_plan.specs.Statements.{statement, statement_refusal, IsRefusalOf}
use Rattle.vx_command_pages.specs.declared.error.Status.{Status}
use Rattle.vx_command_pages.specs.declared.error.Status.TheVariants.{Failed, Wrong}
use Rattle.vx_command_pages.specs.Inputs.{ReadsAs, ReadsType, IsCommandError, status_of}
use Rattle.vx_command_pages.specs.Pages.{line}
use Rattle.vx_command_pages.specs.declared.sql.SqlError.{SqlError}
use Rattle.vx_command_pages.specs.declared.sql.SqlError.TheVariants.{Query, Statement}

-- a statement on a line, and on another what is left of a tree, if something is
abbrev pub lines_of : List ℕ → Option BoundTree → List ℕ
lines_of statement None = line statement
lines_of statement (Some r) = line statement ++ line (codes "residual: " ++ source (unbound r))

-- the statement of a tree over rows of that type, and what is left
abbrev pub sql_lines : Dialect → LogicalType → BoundTree → Name → List ℕ
sql_lines d s u table = lines_of (statement d s u table) (residual d u)

-- the page is that of a plan, by the folding rules, of the expression that the text is read as, over the type that the schema is read as
abbrev pub IsSqlPage : List ℕ → List ℕ → Dialect → Name → List ℕ → Type 0
IsSqlPage text schema d table page = (e : Tree) × (s : LogicalType) × ReadsAs text s e × ReadsType schema s × ((u : BoundTree) × IsPlanFor FoldingRuleAt e s s u × (page ≡ sql_lines d s u table))

-- such a plan has no statement, or memory ran out
abbrev pub IsUnwritten : List ℕ → List ℕ → Dialect → Name → NoStatement → Type 0
IsUnwritten text schema d table refusal =
    (e : Tree) × (s : LogicalType) × ReadsAs text s e × ReadsType schema s × ((u : BoundTree) × IsPlanFor FoldingRuleAt e s s u × IsRefusalOf (statement_refusal d s u table) refusal)

-- why there is no such page
abbrev pub IsSqlError : List ℕ → List ℕ → Dialect → Name → SqlError → Type 0
IsSqlError text schema d table (Query c) = IsCommandError text schema c
IsSqlError text schema d table (Statement refusal) = IsUnwritten text schema d table refusal

-- how a command ends that stops with the error
abbrev pub sql_status_of : SqlError → Status
sql_status_of (Query c) = status_of c
sql_status_of (Statement OutOfMemory) = Failed
sql_status_of (Statement NoColumns) = Wrong
sql_status_of (Statement (Table reason)) = Wrong
sql_status_of (Statement (Column name reason)) = Wrong
