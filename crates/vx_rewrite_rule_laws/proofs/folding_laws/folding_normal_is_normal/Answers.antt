use Rattle.vx_rewrite_rule_laws.proofs.FoldingLawfulness.{folding_normal}
use Rattle.vx_rewrite_rule_laws.proofs.folding_laws.folding_normal_is_normal.Goals as goal

pub returns : goal.returns
returns c = folding_normal
