use Rattle.vx_rewrite_rule_laws.proofs.StandardLightening.{rule_lightens}
use Rattle.vx_rewrite_rule_laws.proofs.standard_laws.rules_lighten.Goals as goal

pub returns : goal.returns
returns c = rule_lightens
