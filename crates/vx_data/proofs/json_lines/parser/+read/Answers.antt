use Rattle.std.proofs.Common.{◌+◌, ◌*◌, ◌<◌, ap, arith, rules}
use Rattle.vx_value.specs.Fields.{field_count}
use Rattle.vx_value.specs.Views.{fields_of, names_of, type_of}
use Rattle.vx_data.proofs.Sizes.{fields_size, smaller_at, type_size}
use Rattle.vx_data.proofs.json_lines.parser.+read.Goals as goal

pub read_field-read_value-requires : goal.read_field-read_value-requires
read_field-read_value-requires t c =
    let names = names_of c.args.fields.now in
    let types = c.types-types.result.now in
    let count = ap field_count c.types-types.ensures.fields in
    let size = ap fields_size c.types-types.ensures.fields in
    let less = smaller_at names types c.args.i c.index-types-i.result (omega arith) c.index-types-i.is in
    let smaller : 4 * type_size (type_of c.index-types-i.result) + 1 < 4 * fields_size (fields_of c.args.fields.now) + 1 = omega (arith, less, size) in
    search rules
