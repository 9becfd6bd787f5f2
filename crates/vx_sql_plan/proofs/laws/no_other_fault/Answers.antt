use Rattle.vx_sql_plan.proofs.Kept.{none_faults}
use Rattle.vx_sql_plan.proofs.laws.no_other_fault.Goals as goal

pub returns : goal.returns
returns c = none_faults
