use Rattle.std.proofs.Common.{arith}
use Rattle.vx_projection.proofs.Loops.{taken_next, taken_end}
use Rattle.vx_projection.proofs.wanted.+taken.Goals as goal

pub taken_of_each-loop-i-preserved : goal.taken_of_each-loop-i-preserved
taken_of_each-loop-i-preserved t c =
    taken_next c.args.wanted.now c.args.values.now c.loop-i.made.items c.push.new.self.items c.loop-i.i c.index-wanted-i.result c.index-values-i.result c.in_ok-taken.field-0 _
    (omega arith) (omega arith) c.index-wanted-i.is c.index-values-i.is c.in_ok-push.ensures.items c.in_ok-taken.ensures c.loop-i.invariant

pub taken_of_each-returns : goal.taken_of_each-returns
taken_of_each-returns t c = taken_end c.args.wanted.now c.args.values.now c.loop-i.made.items c.loop-i.i _ (omega arith) c.loop-i.invariant
