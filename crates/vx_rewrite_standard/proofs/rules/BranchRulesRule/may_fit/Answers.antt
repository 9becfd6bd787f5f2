use Rattle.std.proofs.Common.{ap}
use Rattle.std.specs.Prelude.{Ok, None}
use Rattle.vx_rewrite_core.specs.Steps.{GivesNothing}
use Rattle.vx_rewrite_core.proofs.Answering.{answer_gives, second_gives}
use Rattle.vx_rewrite_rule_laws.specs.Rules.{RuleAt}
use Rattle.vx_rewrite_rule_laws.proofs.BranchDecisions.{branch_decided}
use Rattle.vx_rewrite_rule_laws.specs.Branches.{BranchAt}
use Rattle.vx_rewrite_rule_laws.specs.BranchGiven.{branch_given}
use Rattle.vx_tree.specs.Views.{bound_of}
use Rattle.vx_rewrite_standard.proofs.rules.BranchRulesRule.may_fit.Goals as goal

pub returns-else-may_fit : goal.returns-else-may_fit
returns-else-may_fit c = record {
  none = λ none.
      let b = bound_of c.args.node.now in
      let standard : GivesNothing RuleAt b = c.may_fit.ensures.none c.if-may_fit.false in
      second_gives RuleAt BranchAt b (Ok None) standard (answer_gives BranchAt branch_given branch_decided (Ok None) b c.requires (ap Ok (c.may_give.ensures none)));
}
