use Rattle.vx_rewrite_core.proofs.Stepping.{steps_keep}
use Rattle.vx_rewrite_core.proofs.Weighing.{steps_lighter}
use Rattle.vx_rewrite_core.proofs.optimizer_laws.steps_keep.Goals as goal

pub returns : goal.returns
returns g c = λ rules b u n w s.
    let law = g.met.R.Rule.lawful rules in
    (steps_keep _ law.keeps s w, steps_lighter _ law s w)
