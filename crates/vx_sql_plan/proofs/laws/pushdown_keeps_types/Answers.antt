use Rattle.vx_sql_plan.proofs.Kept.{typed_stays, over_stays}
use Rattle.vx_sql_plan.proofs.laws.pushdown_keeps_types.Goals as goal

pub returns : goal.returns
returns c = record { typed = typed_stays; over = over_stays }
