use Rattle.std.proofs.Common.{rules, inl, inr, ◌≡◌, refl, Err}
use Rattle.vx_walk.proofs.Walking.{Walked-failed, Walked-stopped, Walked-skipped, Walked-cut, Walked-whole, Front-start, Front-next, Front-stop, Front-fail, Front-at, Front-end}
use Rattle.vx_walk.proofs.visit.+walk.Goals as goal

pub returns-in_err-visit_down-clause-walked : goal.returns-in_err-visit_down-clause-walked
returns-in_err-visit_down-clause-walked g t c =
    let e : c.from_residual.result ≡ Err c.in_err-visit_down.field-0.0 = search rules in
    rw e (Walked-failed _ _ _ (record { node = _; looks = refl; step = c.in_err-visit_down.ensures.gives }))

pub returns-in-Stop-clause-walked : goal.returns-in-Stop-clause-walked
returns-in-Stop-clause-walked g t c =
    Walked-stopped _ _ _ (record { node = _; looks = refl; step = rw c.in-Stop.is at c.in_ok-visit_down.ensures.gives })

pub returns-in-Skip-clause-walked : goal.returns-in-Skip-clause-walked
returns-in-Skip-clause-walked g t c =
    Walked-skipped _ _ _
    (record { node = _; looks = refl; step = rw c.in-Skip.is at c.in_ok-visit_down.ensures.gives })
    (record { node = _; looks = refl; step = c.visit_up.ensures.gives })

pub loop-child-init : goal.loop-child-init
loop-child-init g t c = record { ready = search rules; front = Front-start _ _ _ _ _ }

pub returns-in_err-order-clause-walked : goal.returns-in_err-order-clause-walked
returns-in_err-order-clause-walked g t c =
    let e : c.from_residual-in_err-order.result ≡ Err c.in_err-order.field-0.0 = search rules in
    let f = Front-at _ _ _ _ _ _ _ _ c.loop-child-test.true c.child-item.is c.loop-child.invariant.front in
    rw e (Walked-cut _ _ _
    (record { node = _; looks = refl; step = rw c.in-Continue.is at c.in_ok-visit_down.ensures.gives })
    (rw c.children_slice-child-items.ensures at (Front-fail _ _ _ f c.in_err-order.ensures.walked))
    (λ q. cc))

pub returns-in-Stop-order-clause-walked : goal.returns-in-Stop-order-clause-walked
returns-in-Stop-order-clause-walked g t c =
    let f = Front-at _ _ _ _ _ _ _ _ c.loop-child-test.true c.child-item.is c.loop-child.invariant.front in
    Walked-cut _ _ _
    (record { node = _; looks = refl; step = rw c.in-Continue.is at c.in_ok-visit_down.ensures.gives })
    (rw c.children_slice-child-items.ensures at (Front-stop _ _ _ f (rw c.in-Stop-order.is at c.in_ok-order.ensures.walked)))
    (λ q. cc)

pub loop-child-preserved : goal.loop-child-preserved
loop-child-preserved g t c =
    let f = Front-at _ _ _ _ _ _ _ _ c.loop-child-test.true c.child-item.is c.loop-child.invariant.front in
    record { ready = search rules; front = Front-next _ _ _ f c.in_ok-order.ensures.walked c.in_default.not-Stop }

pub returns-in-Continue-order-clause-walked : goal.returns-in-Continue-order-clause-walked
returns-in-Continue-order-clause-walked g t c =
    let f = Front-end _ _ _ _ _ _ _ c.loop-child-test.false c.loop-child.invariant.front in
    Walked-whole _ _ _
    (record { node = _; looks = refl; step = rw c.in-Continue.is at c.in_ok-visit_down.ensures.gives })
    (rw (c.children_slice-child-items.ensures, c.in-Continue-order.is) at f)
    (record { node = _; looks = refl; step = c.visit_up-in-Continue-order.ensures.gives })

pub returns-in-Skip-order-clause-walked : goal.returns-in-Skip-order-clause-walked
returns-in-Skip-order-clause-walked g t c =
    let f = Front-end _ _ _ _ _ _ _ c.loop-child-test.false c.loop-child.invariant.front in
    Walked-cut _ _ _
    (record { node = _; looks = refl; step = rw c.in-Continue.is at c.in_ok-visit_down.ensures.gives })
    (rw c.children_slice-child-items.ensures at f)
    (λ q. elim c.in-Skip-order.is [ inl a ↦ cc | inr a ↦ cc ])
