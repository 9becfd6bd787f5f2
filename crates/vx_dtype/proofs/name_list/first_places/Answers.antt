use Rattle.std.proofs.Common.{arith}
use Rattle.vx_dtype.proofs.FirstPlaces.{tells_next, tells_all}
use Rattle.vx_dtype.proofs.name_list.first_places.Goals as goal

pub loop-i-preserved : goal.loop-i-preserved
loop-i-preserved c =
    tells_next c.loop-i.i _ c.loop-i.index c.insert.new.self c.args.names.now c.index-names-i.result c.in_ok-clone.field-0 (omega arith) (omega arith) c.index-names-i.is
    c.in_ok-clone.ensures.cases c.in_ok-insert.ensures.updates c.loop-i.invariant

pub returns : goal.returns
returns c = tells_all c.loop-i.i c.loop-i.index c.args.names.now c.loop-i-test.false c.loop-i.invariant
