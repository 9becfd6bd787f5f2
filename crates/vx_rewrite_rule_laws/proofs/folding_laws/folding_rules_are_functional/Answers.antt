use Rattle.vx_rewrite_rule_laws.proofs.FoldingLawfulness.{folding_functional}
use Rattle.vx_rewrite_rule_laws.proofs.folding_laws.folding_rules_are_functional.Goals as goal

pub returns : goal.returns
returns c = folding_functional
