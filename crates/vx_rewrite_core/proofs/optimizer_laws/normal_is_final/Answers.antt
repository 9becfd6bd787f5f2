use Rattle.vx_rewrite_core.proofs.Normality.{final}
use Rattle.vx_rewrite_core.proofs.optimizer_laws.normal_is_final.Goals as goal

pub returns : goal.returns
returns g c = λ rules. final (g.R.Rule.gives rules)
