use Rattle.std.proofs.Common.{rules, ◌≡◌, ap, inl, inr, Err, arith}
use Rattle.vx_dtype.specs.declared.error.VortexError.TheVariants.{OutOfMemory}
use Rattle.vx_walk.specs.Shapes.{parts}
use Rattle.vx_walk.specs.Containers.{within, not_begun}
use Rattle.vx_walk.proofs.Calls.{GoesOn-from_cases}
use Rattle.vx_walk.proofs.Mappings.{MapFront-step, MapFront-fail, MapFront-done, empty_from_length}
use Rattle.vx_walk.proofs.containers.VecNodeContainer.map_with.Goals as goal
use Rattle.vx_walk.proofs.containers.VecNodeContainer.map_with.Goals.{in-Stop, in-Skip+in_ok-handed-in-Skip}

pub returns-in_err-values-clause-mapped : goal.returns-in_err-values-clause-mapped
returns-in_err-values-clause-mapped g c =
    let e : c.from_residual.result ≡ Err OutOfMemory = search rules in
    rw e (not_begun tt)

pub returns-in_err-handed-in-Skip : goal.returns-in_err-handed-in-Skip
returns-in_err-handed-in-Skip g c =
    let e : c.from_residual-in_err-handed-in-Skip.result ≡ Err c.in_err-handed-in-Skip.field-0.0 = search rules in
    let f = rw c.in-Some.ensures.steps.0 at c.loop-container.invariant.front in
    record {
      mapped = rw e (within (Err c.in_err-handed-in-Skip.field-0.0) (MapFront-fail _ _ _ f (GoesOn-from_cases c.in-Skip.is) c.in_err-handed-in-Skip.ensures.mapped));
      ready = search rules;
    }

pub loop-container-preserved : goal.loop-container-preserved
loop-container-preserved g c =
    let f = rw c.in-Some.ensures.steps.0 at c.loop-container.invariant.front in
    let s = MapFront-step _ _ g.C.NodeContainer.shape _ c.match-order.handed f
    (elim c.match-order.branch [
      | in-Stop w ↦ inl (w.in-Stop.is, w.mapper-is, w.handed-is)
      | in-Skip+in_ok-handed-in-Skip w ↦ inr (GoesOn-from_cases w.in-Skip.is, rw (w.handed-is, w.mapper-is) w.in_ok-handed-in-Skip.ensures.mapped)
    ]) in
    record {
      ready = elim c.match-order.branch [
        | in-Stop w ↦ rw w.mapper-is c.loop-container.invariant.ready
        | in-Skip+in_ok-handed-in-Skip w ↦ rw w.mapper-is w.in_ok-handed-in-Skip.ensures.ready
      ];
      room = omega (arith, c.loop-container.invariant.room, rw c.in-Some.ensures.steps.0 at c.loop-container.invariant.room, c.push_reserved.ensures.len, c.push_reserved.ensures.capacity);
      front = rw c.push_reserved.ensures.items s;
    }

pub returns-clause-mapped : goal.returns-clause-mapped
returns-clause-mapped g c =
    let e = empty_from_length c.loop-container.container-iterator.rest.items _ c.in-None.ensures.steps.0 c.loop-container.container-iterator.rest.ok.0 in
    within _ (MapFront-done _ _ _ (ap (λ xs. parts g.C.NodeContainer.shape xs) e) c.loop-container.invariant.front)
