use Rattle.std.proofs.Common.{◌≡◌, ap, rules, to_z, of_z}
use Rattle.std.proofs.Output.{has_written_append, has_written_of_eq}
use Rattle.std.specs.Int.{w128}
use Rattle.vx_dtype.specs.Timestamps.{zone_name}
use Rattle.vx_literals.specs.Instants.{instant_text}
use Rattle.vx_sql.proofs.literals.write_moment.Goals as goal

pub returns : goal.returns
returns g c plain ok =
    let t = c.args.timestamp.now in
    let kept : to_z w128 (of_z w128 c.args.instant) ≡ c.args.instant = search rules in
    let opened = c.write_str.ensures.writes plain (search rules) in
    let instant = has_written_of_eq _ _ _ _ _ (ap (instant_text t.unit (zone_name t)) kept) (c.write_instant.ensures opened.plain (search rules)) in
    let amid = c.write_str-2.ensures.writes instant.plain (search rules) in
    let typed = c.write_instant_type.ensures amid.plain (search rules) in
    let closed = c.write_str-3.ensures.writes typed.plain ok in
    has_written_append _ _ _ _ _ _ opened (has_written_append _ _ _ _ _ _ instant (has_written_append _ _ _ _ _ _ amid (has_written_append _ _ _ _ _ _ typed closed)))
