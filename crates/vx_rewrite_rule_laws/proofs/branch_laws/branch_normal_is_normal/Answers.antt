use Rattle.vx_rewrite_rule_laws.proofs.BranchLawfulness.{branch_normal}
use Rattle.vx_rewrite_rule_laws.proofs.branch_laws.branch_normal_is_normal.Goals as goal

pub returns : goal.returns
returns c = branch_normal
