use Rattle.vx_rewrite_core.specs.Steps.{GivesNothing}
use Rattle.vx_rewrite_core.proofs.Answering.{answer_gives, second_gives}
use Rattle.vx_rewrite_rule_laws.specs.Rules.{RuleAt}
use Rattle.vx_rewrite_rule_laws.proofs.BranchDecisions.{branch_decided}
use Rattle.vx_rewrite_rule_laws.specs.Branches.{BranchAt}
use Rattle.vx_rewrite_rule_laws.specs.BranchGiven.{branch_given}
use Rattle.vx_tree.specs.Views.{bound_of}
use Rattle.vx_rewrite_standard.proofs.rules.BranchRulesRule.apply_at.Goals as goal

pub returns-in-None-clause-gives : goal.returns-in-None-clause-gives
returns-in-None-clause-gives c =
    let b = bound_of c.args.node.now in
    let nothing : GivesNothing RuleAt b = rw c.in-None.is at c.in_ok-given.ensures.gives in
    second_gives RuleAt BranchAt b c.branch_given.result nothing (answer_gives BranchAt branch_given branch_decided c.branch_given.result b c.requires c.branch_given.ensures)
