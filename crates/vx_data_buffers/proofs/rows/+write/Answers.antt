use Rattle.std.proofs.Common.{◌+◌, ◌*◌, ◌<◌, ap, rules, arith}
use Rattle.vx_dtype.proofs.Pairs.{field_count_view}
use Rattle.vx_value.specs.Fields.{field_count}
use Rattle.vx_value.specs.Views.{fields_of, names_of, type_of}
use Rattle.vx_data_buffers.specs.Layout.{buffer_count, field_buffer_count}
use Rattle.vx_data_buffers.proofs.Fields.{count_next}
use Rattle.vx_data_buffers.proofs.rows.+write.Goals as goal

pub write_fields-write_column-requires : goal.write_fields-write_column-requires
write_fields-write_column-requires t c =
    let many = field_count_view (names_of c.args.fields.now) c.types-types.result.now in
    let all = ap field_count c.types-types.ensures.fields in
    let next = count_next (names_of c.args.fields.now) c.types-types.result.now c.loop-field.field c.index-types-field.result (omega arith) (omega arith) c.index-types-field.is in
    let smaller : 2 * buffer_count (type_of c.index-types-field.result) < 2 * field_buffer_count (fields_of c.args.fields.now) + 1 = omega (arith, next, c.loop-field.invariant) in
    search rules

pub write_fields-loop-field-preserved : goal.write_fields-loop-field-preserved
write_fields-loop-field-preserved t c =
    let many = field_count_view (names_of c.args.fields.now) c.types-types.result.now in
    let all = ap field_count c.types-types.ensures.fields in
    let next = count_next (names_of c.args.fields.now) c.types-types.result.now c.loop-field.field c.index-types-field.result (omega arith) (omega arith) c.index-types-field.is in
    omega (arith, next, c.loop-field.invariant)
