use Rattle.vx_rewrite_rule_laws.proofs.FoldingLawfulness.{folding_form_is_one}
use Rattle.vx_rewrite_rule_laws.proofs.folding_laws.folding_normal_form_is_one.Goals as goal

pub returns : goal.returns
returns c = folding_form_is_one
