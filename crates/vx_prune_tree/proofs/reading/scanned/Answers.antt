use Rattle.std.proofs.Common.{◌≤◌, length, take, arith}
use Rattle.vx_value.specs.Views.{value_of}
use Rattle.vx_prune_tree.specs.Lent.{at_places}
use Rattle.vx_prune_tree.proofs.Read.{values_at, values_at-more, scanned-none, scanned-null, scanned-value, scanned-all, nulls-le}
use Rattle.vx_prune_tree.proofs.reading.scanned.Goals as goal
use Rattle.vx_prune_tree.proofs.reading.scanned.Goals.{in-None, in-Some}

pub loop-row-init : goal.loop-row-init
loop-row-init c = scanned-none

pub overflow_add-nulls : goal.overflow_add-nulls
overflow_add-nulls c =
    let few : c.loop-row.nulls ≤ c.loop-row.row-index = nulls-le c.args.places.now c.args.rows.now c.loop-row.row-index _ _ c.loop-row.invariant in
    omega arith

pub loop-row-preserved : goal.loop-row-preserved
loop-row-preserved c =
    let places = c.args.places.now in
    let before = values_at places (take c.loop-row.row-index c.args.rows.now) in
    let v = at_places places (value_of c.row-item.result) in
    let more = values_at-more places c.args.rows.now c.loop-row.row-index c.row-item.result c.loop-row-test.true c.row-item.is in
    rw more (elim c.match-value_at.branch [
      | in-None w ↦ rw (w.nulls-is, w.ends-is) (scanned-null c.loop-row.nulls c.loop-row.ends before v c.loop-row.invariant w.in-None.ensures)
      | in-Some w ↦ rw (w.nulls-is, w.ends-is) (scanned-value c.loop-row.nulls c.loop-row.ends w.with.result before v _ c.loop-row.invariant w.in-Some.ensures w.with.ensures)
    ])

pub returns-clause-nulls : goal.returns-clause-nulls
returns-clause-nulls c =
    let end : length c.args.rows.now ≤ c.loop-row.row-index = omega arith in
    (scanned-all c.args.places.now c.args.rows.now c.loop-row.row-index c.loop-row.nulls c.loop-row.ends end c.loop-row.invariant).nulls

pub returns-clause-ends : goal.returns-clause-ends
returns-clause-ends c =
    let end : length c.args.rows.now ≤ c.loop-row.row-index = omega arith in
    (scanned-all c.args.places.now c.args.rows.now c.loop-row.row-index c.loop-row.nulls c.loop-row.ends end c.loop-row.invariant).ends
