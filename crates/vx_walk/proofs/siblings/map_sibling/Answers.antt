use Rattle.std.proofs.Common.{rules, ◌≡◌, refl, Err}
use Rattle.vx_dtype.specs.declared.error.VortexError.TheVariants.{OutOfMemory}
use Rattle.vx_walk.specs.Siblings.{stays, goes, not_cloned}
use Rattle.vx_walk.proofs.Calls.{GoesOn-from_cases}
use Rattle.vx_walk.proofs.siblings.map_sibling.Goals as goal

pub returns-in_err-value-clause-step : goal.returns-in_err-value-clause-step
returns-in_err-value-clause-step g c =
    let e : c.from_residual.result ≡ Err OutOfMemory = search rules in
    rw e not_cloned

pub returns-in-Stop-clause-step : goal.returns-in-Stop-clause-step
returns-in-Stop-clause-step g c =
    let same : g.N.Node.mirror c.in_ok-value.value ≡ g.N.Node.mirror c.args.sibling.now = g.met.N.Node.clones_are_equal _ _ c.in_ok-value.ensures.cases in
    rw (same, c.in-Stop.is) (stays refl)

pub returns-in-Skip-clause-step : goal.returns-in-Skip-clause-step
returns-in-Skip-clause-step g c =
    let same : g.N.Node.mirror c.in_ok-value.value ≡ g.N.Node.mirror c.args.sibling.now = g.met.N.Node.clones_are_equal _ _ c.in_ok-value.ensures.cases in
    goes (GoesOn-from_cases c.in-Skip.is) (record { node = c.in_ok-value.value; looks = same; answer = _; sees = refl; step = c.map.ensures.gives })
