use Rattle.vx_rewrite_core.proofs.Answering.{answer_gives}
use Rattle.vx_rewrite_rule_laws.proofs.StandardDecisions.{rule_decided}
use Rattle.vx_rewrite_rule_laws.specs.StandardGiven.{given_at}
use Rattle.vx_rewrite_rule_laws.specs.Rules.{RuleAt}
use Rattle.vx_rewrite_standard.proofs.standard.StandardRulesRule.apply_at.Goals as goal
use Rattle.vx_tree.specs.Views.{bound_of}

pub returns-clause-gives : goal.returns-clause-gives
returns-clause-gives c = answer_gives RuleAt given_at rule_decided c.given_at.result (bound_of c.args.node.now) c.requires c.given_at.ensures
