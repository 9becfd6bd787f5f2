use Rattle.vx_rewrite_core.proofs.Sets.{one_normal_form}
use Rattle.vx_rewrite_core.proofs.rule_set_laws.normal_form_is_one.Goals as goal

pub returns : goal.returns
returns g c = λ rules functional. one_normal_form (g.R.Rule.gives rules) (g.met.R.Rule.lawful rules) functional
