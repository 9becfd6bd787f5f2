use Rattle.std.proofs.Common.{rules, ◌≡◌, refl, Err}
use Rattle.vx_walk.specs.Shapes.{element}
use Rattle.vx_walk.specs.Visits.{at}
use Rattle.vx_walk.proofs.Calls.{Reached-at, Reached-end, Reached-next, Reached-stop, Reached-fail, parts_of_seen}
use Rattle.vx_walk.proofs.node.Node.apply_children_with.Goals as goal

pub returns-in_err-order-clause-applied : goal.returns-in_err-order-clause-applied
returns-in_err-order-clause-applied g c =
    let e : c.from_residual.result ≡ Err c.in_err-order.field-0.0 = search rules in
    let r = Reached-at _ (λ n. element (g.Self.Node.mirror n)) _ _ _ c.loop-child-test.true c.child-item.is c.loop-child.invariant.reached in
    rw (e, ← c.children_slice-child-items.ensures, parts_of_seen g.Self.Node.mirror element)
    (Reached-fail _ r (at (record { node = _; looks = refl; step = c.in_err-order.ensures.gives })))

pub returns-in-Stop-clause-applied : goal.returns-in-Stop-clause-applied
returns-in-Stop-clause-applied g c =
    let r = Reached-at _ (λ n. element (g.Self.Node.mirror n)) _ _ _ c.loop-child-test.true c.child-item.is c.loop-child.invariant.reached in
    rw (← c.children_slice-child-items.ensures, parts_of_seen g.Self.Node.mirror element)
    (Reached-stop _ r (at (record { node = _; looks = refl; step = rw c.in-Stop.is at c.in_ok-order.ensures.gives })))

pub loop-child-preserved : goal.loop-child-preserved
loop-child-preserved g c =
    let r = Reached-at _ (λ n. element (g.Self.Node.mirror n)) _ _ _ c.loop-child-test.true c.child-item.is c.loop-child.invariant.reached in
    record {
      ready = search rules;
      reached = Reached-next _ r (at (record { node = _; looks = refl; step = c.in_ok-order.ensures.gives })) c.in_default.not-Stop;
    }

pub returns-clause-applied : goal.returns-clause-applied
returns-clause-applied g c =
    rw (← c.children_slice-child-items.ensures, parts_of_seen g.Self.Node.mirror element)
    (Reached-end _ (λ n. element (g.Self.Node.mirror n)) _ _ c.loop-child-test.false c.loop-child.invariant.reached)
