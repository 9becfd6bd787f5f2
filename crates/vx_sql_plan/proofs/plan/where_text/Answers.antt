use Rattle.std.proofs.Common.{sym, ◌∙◌, string_bytes}
use Rattle.std.proofs.lemmas.Result.{IfOk-weaker}
use Rattle.vx_sql_plan.proofs.Texts.{some_conditions}
use Rattle.vx_sql_plan.proofs.plan.where_text.Goals as goal

pub returns : goal.returns
returns c =
    IfOk-weaker c.format.result _ _
    (λ t e. e ∙ some_conditions c.args.conditions.now (string_bytes c.in_ok-condition.condition) (sym c.is_empty.ensures ∙ c.if-is_empty.false) c.in_ok-condition.ensures.ok) c.format.ensures.ok
