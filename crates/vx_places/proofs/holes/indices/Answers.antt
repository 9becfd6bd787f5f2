use Rattle.vx_places.proofs.Holed.{names_more}
use Rattle.vx_places.proofs.holes.indices.Goals as goal

pub loop-i-preserved : goal.loop-i-preserved
loop-i-preserved c = names_more c.loop-i.names.items c.push.new.self.items c.loop-i.i c.in_ok-index_name.field-0 c.loop-i.invariant c.in_ok-push.ensures.items c.in_ok-index_name.ensures
