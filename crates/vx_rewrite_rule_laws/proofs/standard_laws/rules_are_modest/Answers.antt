use Rattle.vx_rewrite_rule_laws.proofs.StandardModesty.{rules_modest}
use Rattle.vx_rewrite_rule_laws.proofs.standard_laws.rules_are_modest.Goals as goal

pub returns : goal.returns
returns c = rules_modest
