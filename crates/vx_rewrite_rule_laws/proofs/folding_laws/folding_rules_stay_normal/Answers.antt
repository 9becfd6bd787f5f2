use Rattle.vx_rewrite_rule_laws.proofs.FoldingLawfulness.{folding_lawful}
use Rattle.vx_rewrite_rule_laws.proofs.folding_laws.folding_rules_stay_normal.Goals as goal

pub returns : goal.returns
returns c = folding_lawful.normal
