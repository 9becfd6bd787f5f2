use Rattle.vx_rewrite_rule_laws.proofs.BranchLawfulness.{branch_rules_lawful}
use Rattle.vx_rewrite_rule_laws.proofs.branch_laws.branch_rules_stay_normal.Goals as goal

pub returns : goal.returns
returns c = branch_rules_lawful.normal
