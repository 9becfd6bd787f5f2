use Rattle.std.proofs.Common.{ap}
use Rattle.std.specs.Prelude.{Ok, None}
use Rattle.vx_rewrite_core.proofs.Answering.{answer_gives}
use Rattle.vx_rewrite_rule_laws.proofs.StandardDecisions.{rule_decided}
use Rattle.vx_rewrite_rule_laws.specs.StandardGiven.{given_at}
use Rattle.vx_rewrite_rule_laws.specs.Rules.{RuleAt}
use Rattle.vx_rewrite_standard.proofs.standard.StandardRulesRule.may_fit.Goals as goal
use Rattle.vx_tree.specs.Views.{bound_of}

pub returns : goal.returns
returns c = record {
  none = λ none. answer_gives RuleAt given_at rule_decided (Ok None) (bound_of c.args.node.now) c.requires (ap Ok (c.may_give.ensures none));
}
