use Rattle.std.proofs.Common.{arith}
use Rattle.vx_eval.proofs.Gathered.{one_more, all_in}
use Rattle.vx_eval.proofs.membership.elements.set_of.Goals as goal

pub loop-item-preserved : goal.loop-item-preserved
loop-item-preserved c =
    one_more c.loop-item.item-index c.loop-item.set c.insert.new.self c.args.items.now c.item-item.result c.loop-item-test.true c.item-item.is c.in_ok-insert.ensures.updates.0 c.loop-item.invariant

pub returns : goal.returns
returns c = all_in c.loop-item.item-index c.loop-item.set c.args.items.now (omega arith) c.loop-item.invariant
