use Rattle.vx_rewrite_core.specs.Steps.{one_more_at_root}
use Rattle.vx_rewrite_core.proofs.Forms.{root_form}
use Rattle.vx_rewrite_core.proofs.root.root_form.Goals as goal

pub rest_of_steps-requires : goal.rest_of_steps-requires
rest_of_steps-requires g c =
    let law = g.met.R.Rule.lawful c.args.rules.now in
    let given = rw c.in-Some.is at c.in_ok-lighter.ensures.gives in
    (law.keeps _ _ c.requires given).typed_after

pub returns-in_ok-rest_of_steps-in-Some-clause-form : goal.returns-in_ok-rest_of_steps-in-Some-clause-form
returns-in_ok-rest_of_steps-in-Some-clause-form g c =
    let law = g.met.R.Rule.lawful c.args.rules.now in
    let given = rw c.in-Some.is at c.in_ok-lighter.ensures.gives in
    let rest = c.in_ok-rest_of_steps-in-Some.ensures.form in
    root_form law (one_more_at_root given rest.steps) c.requires rest.normal
