use Rattle.vx_rewrite_core.proofs.Sets.{either_normal}
use Rattle.vx_rewrite_core.proofs.rule_set_laws.normal_under_both.Goals as goal

pub returns : goal.returns
returns g c = λ first second. either_normal (g.R.Rule.gives first) (g.S.Rule.gives second)
