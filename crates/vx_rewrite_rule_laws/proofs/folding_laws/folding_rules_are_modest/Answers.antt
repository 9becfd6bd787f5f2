use Rattle.vx_rewrite_rule_laws.proofs.FoldingLawfulness.{folding_modest}
use Rattle.vx_rewrite_rule_laws.proofs.folding_laws.folding_rules_are_modest.Goals as goal

pub returns : goal.returns
returns c = folding_modest
