use Rattle.vx_sql_plan.proofs.Meant.{selects_alike, means_alike}
use Rattle.vx_sql_plan.proofs.laws.pushdown_keeps_the_meaning.Goals as goal

pub returns : goal.returns
returns c = record { selects = selects_alike; means = means_alike }
