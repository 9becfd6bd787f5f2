use Rattle.std.proofs.Common.{sym, ◌∙◌, string_bytes}
use Rattle.std.proofs.lemmas.Result.{IfOk-weaker}
use Rattle.vx_sql_plan.proofs.Texts.{some_columns}
use Rattle.vx_sql_plan.proofs.plan.columns_text.Goals as goal

pub returns-else-is_empty : goal.returns-else-is_empty
returns-else-is_empty c = IfOk-weaker c.join.result _ _ (λ t e. some_columns c.args.columns.now (string_bytes t) (sym c.is_empty.ensures ∙ c.if-is_empty.false) e) c.join.ensures.ok
