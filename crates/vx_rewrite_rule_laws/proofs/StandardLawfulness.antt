-- The standard rules are a lawful set.
use Rattle.vx_rewrite_core.specs.Lawful.{Lawful}
use Rattle.vx_rewrite_core.proofs.Sets.{modest_lawful}
use Rattle.vx_rewrite_rule_laws.proofs.StandardKeeping.{rule_keeps}
use Rattle.vx_rewrite_rule_laws.proofs.StandardLightening.{rule_lightens}
use Rattle.vx_rewrite_rule_laws.proofs.StandardModesty.{rules_modest}
use Rattle.vx_rewrite_rule_laws.specs.Rules.{RuleAt}

pub rules_lawful : Lawful RuleAt
rules_lawful = modest_lawful RuleAt rules_modest rule_keeps rule_lightens
