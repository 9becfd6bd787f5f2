use Rattle.vx_sql_plan.proofs.Kept.{others_left}
use Rattle.vx_sql_plan.proofs.laws.others_are_left.Goals as goal

pub returns : goal.returns
returns c = others_left
