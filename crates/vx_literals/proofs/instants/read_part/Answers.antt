use Rattle.std.proofs.Common.{◌≡◌, ◌∙◌, ap, sym, rules, to_z, of_z, Some}
use Rattle.std.specs.Int.{w128}
use Rattle.vx_dtype.specs.Timestamps.{zone_name}
use Rattle.vx_literals.specs.Instants.{instant_of}
use Rattle.vx_literals.proofs.Parts.{parts_are}
use Rattle.vx_literals.proofs.instants.read_part.Goals as goal

pub returns : goal.returns
returns c =
    parts_are c.args.t.now.unit (zone_name c.args.t.now) c.args.day c.in_ok-offset.offset _ c.args.second c.in_ok-part.part _ c.args.behind.now c.in_ok-part.ensures.units c.in_ok-offset.ensures.offset c.in_front-count.ensures.count
    (ap Some (search rules))
