use Rattle.vx_rewrite_rule_laws.proofs.BranchDecisions.{branch_decided}
use Rattle.vx_rewrite_rule_laws.proofs.branch_laws.branches_are_decided.Goals as goal

pub returns : goal.returns
returns c = branch_decided
