use Rattle.std.proofs.Common.{rules, ◌≡◌, arith, Err}
use Rattle.vx_dtype.specs.declared.error.VortexError.TheVariants.{OutOfMemory}
use Rattle.vx_walk.specs.Mapping.{spent}
use Rattle.vx_walk.proofs.Rows.{RowFront-start, RowFront-pushed, RowFront-fail, RowFront-at, RowFront-end}
use Rattle.vx_walk.proofs.siblings.map_siblings.Goals as goal

pub returns-in_err-mapped-clause-mapped : goal.returns-in_err-mapped-clause-mapped
returns-in_err-mapped-clause-mapped g c =
    let e : c.from_residual.result ≡ Err OutOfMemory = search rules in
    rw e spent

pub loop-sibling-init : goal.loop-sibling-init
loop-sibling-init g c = record {
  ready = search rules;
  len = c.in_ok-mapped.ensures.len;
  room = omega (arith, c.in_ok-mapped.ensures.capacity);
  front = rw (c.in_ok-mapped.ensures.items, c.in_ok-mapped.ensures.order, c.in_ok-mapped.ensures.changed) (RowFront-start _ _ _ _);
}

pub returns-in_err-handed-clause-mapped : goal.returns-in_err-handed-clause-mapped
returns-in_err-handed-clause-mapped g c =
    let e : c.from_residual-in_err-handed.result ≡ Err c.in_err-handed.field-0.0 = search rules in
    let q = RowFront-at _ _ _ _ _ c.loop-sibling-test.true c.sibling-item.is c.loop-sibling.invariant.front in
    rw e (RowFront-fail _ _ q c.in_err-handed.ensures.step)

pub loop-sibling-preserved : goal.loop-sibling-preserved
loop-sibling-preserved g c =
    let q = RowFront-at _ _ _ _ _ c.loop-sibling-test.true c.sibling-item.is c.loop-sibling.invariant.front in
    record {
      ready = search rules;
      len = omega (arith, c.push.ensures.len, c.loop-sibling.invariant.len);
      room = omega (arith, c.push.ensures.capacity, c.loop-sibling.invariant.room);
      front = RowFront-pushed _ _ c.loop-sibling.mapped c.in_ok-handed.handed q c.push.ensures.pushed c.in_ok-handed.ensures.step;
    }

pub returns-clause-mapped : goal.returns-clause-mapped
returns-clause-mapped g c = RowFront-end _ _ _ _ c.loop-sibling-test.false c.loop-sibling.invariant.front
