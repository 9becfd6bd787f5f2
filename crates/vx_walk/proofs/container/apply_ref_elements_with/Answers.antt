use Rattle.std.proofs.Common.{rules, ◌≡◌, Err}
use Rattle.vx_walk.proofs.Calls.{Reached-at, Reached-next, Reached-stop, Reached-fail, Reached-end}
use Rattle.vx_walk.proofs.container.apply_ref_elements_with.Goals as goal

pub returns-in_err-order-clause-applied : goal.returns-in_err-order-clause-applied
returns-in_err-order-clause-applied g c =
    let e : c.from_residual.result ≡ Err c.in_err-order.field-0.0 = search rules in
    let r = Reached-at _ g.C.NodeContainer.shape _ _ _ c.loop-container-test.true c.container-item.is c.loop-container.invariant.reached in
    rw e (Reached-fail _ r c.in_err-order.ensures.applied)

pub returns-in-Stop-clause-applied : goal.returns-in-Stop-clause-applied
returns-in-Stop-clause-applied g c =
    let r = Reached-at _ g.C.NodeContainer.shape _ _ _ c.loop-container-test.true c.container-item.is c.loop-container.invariant.reached in
    Reached-stop _ r (rw c.in-Stop.is at c.in_ok-order.ensures.applied)

pub loop-container-preserved : goal.loop-container-preserved
loop-container-preserved g c =
    let r = Reached-at _ g.C.NodeContainer.shape _ _ _ c.loop-container-test.true c.container-item.is c.loop-container.invariant.reached in
    record { ready = search rules; reached = Reached-next _ r c.in_ok-order.ensures.applied c.in_default.not-Stop }

pub returns-clause-applied : goal.returns-clause-applied
returns-clause-applied g c = Reached-end _ g.C.NodeContainer.shape _ _ c.loop-container-test.false c.loop-container.invariant.reached
