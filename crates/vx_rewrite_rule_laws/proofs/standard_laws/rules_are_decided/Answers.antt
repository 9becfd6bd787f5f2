use Rattle.vx_rewrite_rule_laws.proofs.StandardDecisions.{rule_decided}
use Rattle.vx_rewrite_rule_laws.proofs.standard_laws.rules_are_decided.Goals as goal

pub returns : goal.returns
returns c = rule_decided
