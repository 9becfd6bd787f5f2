use Rattle.vx_rewrite_rule_laws.proofs.BranchDecisions.{branch_rule_functional}
use Rattle.vx_rewrite_rule_laws.proofs.branch_laws.branch_rules_are_functional.Goals as goal

pub returns : goal.returns
returns c = branch_rule_functional
