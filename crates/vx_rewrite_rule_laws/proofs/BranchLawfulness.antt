-- The rules of a CASE by its first condition are a lawful set, alone and beside the standard rules.
use Rattle.vx_tree.specs.Trees.{BoundTree}
use Rattle.vx_rewrite_core.specs.Lawful.{Lawful}
use Rattle.vx_rewrite_core.specs.Steps.{Normal}
use Rattle.vx_rewrite_core.proofs.Sets.{modest_lawful, either_modest, either_lawful, either_normal, one_normal_form}
use Rattle.vx_rewrite_core.specs.FromSubterms.{FromSubterms}
use Rattle.vx_rewrite_core.specs.Sets.{NormalFormIsOne}
use Rattle.vx_rewrite_rule_laws.proofs.StandardLawfulness.{rules_lawful}
use Rattle.vx_rewrite_rule_laws.proofs.StandardModesty.{rules_modest}
use Rattle.vx_rewrite_rule_laws.specs.Rules.{RuleAt}
use Rattle.vx_rewrite_rule_laws.proofs.BranchDecisions.{branch_rule_functional}
use Rattle.vx_rewrite_rule_laws.proofs.BranchKeeping.{branch_keeps}
use Rattle.vx_rewrite_rule_laws.proofs.BranchLightening.{branch_lightens}
use Rattle.vx_rewrite_rule_laws.proofs.BranchModesty.{branches_modest}
use Rattle.vx_rewrite_rule_laws.specs.Branches.{BranchAt, BranchRuleAt}

branches_lawful : Lawful BranchAt
branches_lawful = modest_lawful BranchAt branches_modest branch_keeps branch_lightens

pub branch_rules_modest : FromSubterms BranchRuleAt
branch_rules_modest = either_modest RuleAt BranchAt rules_modest branches_modest

pub branch_rules_lawful : Lawful BranchRuleAt
branch_rules_lawful = either_lawful RuleAt BranchAt rules_modest branches_modest rules_lawful branches_lawful

pub branch_normal : (b : BoundTree) → Normal BranchRuleAt b → Normal RuleAt b
branch_normal = either_normal RuleAt BranchAt

pub branch_form_is_one : NormalFormIsOne BranchRuleAt
branch_form_is_one = one_normal_form BranchRuleAt branch_rules_lawful branch_rule_functional
