use Rattle.std.proofs.Common.{rules, ◌≡◌, Err, false}
use Rattle.vx_dtype.specs.declared.error.VortexError.TheVariants.{OutOfMemory}
use Rattle.vx_walk.specs.declared.order.TraversalOrder.TheVariants.{Stop}
use Rattle.vx_walk.specs.Siblings.{stays, goes, not_cloned}
use Rattle.vx_walk.proofs.rewrite.begin_child.Goals as goal

pub returns-in_err-value-clause-begun : goal.returns-in_err-value-clause-begun
returns-in_err-value-clause-begun g c =
    let e : c.from_residual.result ≡ Err OutOfMemory = search rules in
    rw e not_cloned

pub returns-in-Stop-clause-begun : goal.returns-in-Stop-clause-begun
returns-in-Stop-clause-begun g c =
    let same : g.N.Node.mirror c.in_ok-value.value ≡ g.N.Node.mirror c.args.child.now = g.met.N.Node.clones_are_equal _ _ c.in_ok-value.ensures.cases in
    (record { value = c.in_ok-value.value; order = Stop; changed = false }, c.push.ensures.pushed, rw same (stays c.in-Stop.is))

pub returns-in_err-handed-clause-begun : goal.returns-in_err-handed-clause-begun
returns-in_err-handed-clause-begun g c =
    let e : c.from_residual-in_err-handed.result ≡ Err c.in_err-handed.field-0.0 = search rules in
    let same : g.N.Node.mirror c.in_ok-value.value ≡ g.N.Node.mirror c.args.child.now = g.met.N.Node.clones_are_equal _ _ c.in_ok-value.ensures.cases in
    rw e (goes c.in_default.not-Stop (rw same at c.in_err-handed.ensures.begun))

pub returns-in-Whole-clause-begun : goal.returns-in-Whole-clause-begun
returns-in-Whole-clause-begun g c =
    let same : g.N.Node.mirror c.in_ok-value.value ≡ g.N.Node.mirror c.args.child.now = g.met.N.Node.clones_are_equal _ _ c.in_ok-value.ensures.cases in
    (c.in-Whole.handed, c.push-in-Whole.ensures.pushed, goes c.in_default.not-Stop (rw (c.in-Whole.is, same) at c.in_ok-handed.ensures.begun))

pub returns-in-Open-clause-begun : goal.returns-in-Open-clause-begun
returns-in-Open-clause-begun g c =
    let same : g.N.Node.mirror c.in_ok-value.value ≡ g.N.Node.mirror c.args.child.now = g.met.N.Node.clones_are_equal _ _ c.in_ok-value.ensures.cases in
    (c.in-Open.down, c.push-in-Open.ensures.pushed, c.in_default.not-Stop, rw (c.in-Open.is, same) at c.in_ok-handed.ensures.begun)
