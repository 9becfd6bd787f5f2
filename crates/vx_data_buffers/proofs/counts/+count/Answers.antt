use Rattle.std.proofs.Common.{◌+◌, ◌*◌, ◌<◌, ap, rules, arith}
use Rattle.vx_dtype.proofs.Pairs.{field_count_view}
use Rattle.vx_value.specs.Fields.{field_count}
use Rattle.vx_value.specs.Views.{fields_of, names_of, type_of}
use Rattle.vx_data_buffers.specs.Layout.{buffer_count, field_buffer_count}
use Rattle.vx_data_buffers.proofs.Fields.{count_end, count_next}
use Rattle.vx_data_buffers.proofs.counts.+count.Goals as goal

pub field_buffer_count-buffer_count-requires : goal.field_buffer_count-buffer_count-requires
field_buffer_count-buffer_count-requires t c =
    let many = field_count_view (names_of c.args.fields.now) c.types-types.result.now in
    let all = ap field_count c.types-types.ensures.fields in
    let next = count_next (names_of c.args.fields.now) c.types-types.result.now c.loop-i.i c.index-types-i.result (omega arith) (omega arith) c.index-types-i.is in
    let smaller : 2 * buffer_count (type_of c.index-types-i.result) < 2 * field_buffer_count (fields_of c.args.fields.now) + 1 = omega (arith, next, c.loop-i.invariant) in
    search rules

pub field_buffer_count-loop-i-preserved : goal.field_buffer_count-loop-i-preserved
field_buffer_count-loop-i-preserved t c =
    let many = field_count_view (names_of c.args.fields.now) c.types-types.result.now in
    let all = ap field_count c.types-types.ensures.fields in
    let next = count_next (names_of c.args.fields.now) c.types-types.result.now c.loop-i.i c.index-types-i.result (omega arith) (omega arith) c.index-types-i.is in
    omega (arith, next, c.loop-i.invariant, c.in_ok-count.ensures, c.in_ok-buffer_count.ensures)

pub field_buffer_count-returns : goal.field_buffer_count-returns
field_buffer_count-returns t c =
    let all = ap field_count c.types-types.ensures.fields in
    let end = count_end (names_of c.args.fields.now) c.types-types.result.now c.loop-i.i (omega arith) in
    omega (arith, end, c.loop-i.invariant)
