use Rattle.std.proofs.Common.{Ok, ap, arith, rules}
use Rattle.vx_value.specs.Views.{type_of}
use Rattle.vx_places.proofs.Holed.{hole_put, holes_end}
use Rattle.vx_places.proofs.holes.holes.Goals as goal

pub loop-i-preserved : goal.loop-i-preserved
loop-i-preserved c =
    hole_put (type_of c.args.scope.now) c.args.names.now c.args.children.now c.loop-i.i c.index-names-i.result c.index-children-i.result c.loop-i.nodes.items c.push.new.self.items c.in_ok-hole.field-0 _
    (omega arith) (search rules) (omega arith) c.index-children-i.is c.in_ok-push.ensures.items (search rules) c.loop-i.invariant

pub returns : goal.returns
returns c = ap Ok (holes_end (type_of c.args.scope.now) c.args.names.now c.args.children.now c.loop-i.i c.loop-i.nodes.items _ (omega arith) c.loop-i.invariant)
