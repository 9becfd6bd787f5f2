use Rattle.std.proofs.Common.{ap, arith}
use Rattle.vx_value.specs.Fields.{field_count}
use Rattle.vx_value.specs.Views.{names_of}
use Rattle.vx_projection.proofs.Sizes.{fields_size, smaller_at}
use Rattle.vx_prune.proofs.places.+places.Goals as goal

pub push_fields-push_places-requires : goal.push_fields-push_places-requires
push_fields-push_places-requires t c =
    let names = names_of c.args.fields.now in
    let types = c.types-types.result.now in
    let count = ap field_count c.types-types.ensures.fields in
    let size = ap fields_size c.types-types.ensures.fields in
    let less = smaller_at names types c.loop-i.i c.index-types-i.result (omega arith) c.index-types-i.is in
    (omega (arith, less, size, c.decreases), tt)
