use Rattle.vx_partition.proofs.Filling.{hole_there, hole_missing}
use Rattle.vx_partition.proofs.Finding.{copied_at}
use Rattle.std.proofs.Common.{Some, None}
use Rattle.vx_partition.proofs.fill.hole_at.Goals as goal

pub returns-in-Some : goal.returns-in-Some
returns-in-Some c =
    let holes = c.args.holes.now in
    let there = copied_at holes c.args.group (Some c.in-Some.own) c.in-Some.ensures.lookup in
    hole_there holes c.args.group c.args.index c.in-Some.own.now c.deref.result.now c.get-in-Some.result there c.deref.ensures.value c.get-in-Some.ensures.lookup

pub returns-in-None : goal.returns-in-None
returns-in-None c =
    let holes = c.args.holes.now in
    hole_missing holes c.args.group c.args.index (copied_at holes c.args.group None c.in-None.ensures.lookup)
