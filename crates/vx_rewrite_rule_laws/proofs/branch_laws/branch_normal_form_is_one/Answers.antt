use Rattle.vx_rewrite_rule_laws.proofs.BranchLawfulness.{branch_form_is_one}
use Rattle.vx_rewrite_rule_laws.proofs.branch_laws.branch_normal_form_is_one.Goals as goal

pub returns : goal.returns
returns c = branch_form_is_one
