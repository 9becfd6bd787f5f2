use Rattle.vx_rewrite_rule_laws.proofs.BranchLawfulness.{branch_normal}
use Rattle.vx_scan.proofs.planned.plan.Goals as goal

pub plan_with-requires : goal.plan_with-requires
plan_with-requires c = branch_normal
