use Rattle.std.proofs.Common.{arith}
use Rattle.std.specs.Slice.Iter.{iter_rest}
use Rattle.vx_partition.specs.Filling.{holes_seen}
use Rattle.vx_partition.proofs.Filling.{fills_on, fills_end}
use Rattle.vx_partition.proofs.fill.+fill.Goals as goal

pub fill_each-loop-e-preserved : goal.fill_each-loop-e-preserved
fill_each-loop-e-preserved t c =
    let l = c.loop-e in
    fills_on (holes_seen c.args.holes.now) l.filled.items c.push.new.self.items c.args.es.now l.e-index c.e-item.result c.in_ok-fill.field-0 (iter_rest c.args.marks.now) (iter_rest l.marks) (iter_rest c.fill.new.marks)
    (omega arith) c.e-item.is c.in_ok-push.ensures.items c.in_ok-fill.ensures l.invariant

pub fill_each-returns : goal.fill_each-returns
fill_each-returns t c =
    let l = c.loop-e in
    fills_end (holes_seen c.args.holes.now) l.filled.items c.args.es.now l.e-index (iter_rest c.args.marks.now) (iter_rest l.marks) (omega arith) l.invariant
