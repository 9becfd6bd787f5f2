use Rattle.std.proofs.Common.{suc}
use Rattle.vx_rewrite_core.specs.Steps.{no_root_step}
use Rattle.vx_rewrite_core.proofs.Forms.{root_steps_then, root_form}
use Rattle.vx_rewrite_core.proofs.root.rest_of_steps.Goals as goal

pub loop-current-init : goal.loop-current-init
loop-current-init g c = record { count = 0; steps = no_root_step; typed = c.requires }

pub loop-current-preserved : goal.loop-current-preserved
loop-current-preserved g c =
    let law = g.met.R.Rule.lawful c.args.rules.now in
    let given = rw (c.in-Some.is, c.deref.ensures) at c.in_ok-lighter.ensures.gives in
    let before = c.loop-current.invariant in
    record {
      count = suc before.count;
      steps = root_steps_then before.steps given;
      typed = (law.keeps _ _ before.typed given).typed_after;
    }

pub returns-clause-form : goal.returns-clause-form
returns-clause-form g c =
    let law = g.met.R.Rule.lawful c.args.rules.now in
    root_form law c.loop-current.invariant.steps c.requires (rw (c.in_default.is, c.deref.ensures) at c.in_ok-lighter.ensures.gives)
