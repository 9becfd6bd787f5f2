use Rattle.vx_rewrite_rule_laws.proofs.StandardLawfulness.{rules_lawful}
use Rattle.vx_rewrite_rule_laws.proofs.standard_laws.rules_stay_normal.Goals as goal

pub returns : goal.returns
returns c = rules_lawful.normal
