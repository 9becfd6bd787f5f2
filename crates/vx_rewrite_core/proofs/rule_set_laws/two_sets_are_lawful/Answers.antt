use Rattle.vx_rewrite_core.proofs.Sets.{either_modest, either_lawful}
use Rattle.vx_rewrite_core.proofs.rule_set_laws.two_sets_are_lawful.Goals as goal

pub returns : goal.returns
returns g c = λ first second r s.
    let R = g.R.Rule.gives first in
    let S = g.S.Rule.gives second in
    (either_modest R S r s, either_lawful R S r s (g.met.R.Rule.lawful first) (g.met.S.Rule.lawful second))
