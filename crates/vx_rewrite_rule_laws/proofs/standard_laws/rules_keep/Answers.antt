use Rattle.vx_rewrite_rule_laws.proofs.StandardKeeping.{rule_keeps}
use Rattle.vx_rewrite_rule_laws.proofs.standard_laws.rules_keep.Goals as goal

pub returns : goal.returns
returns c = rule_keeps
