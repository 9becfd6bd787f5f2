use Rattle.std.proofs.Common.{◌≡◌, ◌+◌, ◌*◌, drop}
use Rattle.vx_value.specs.Views.{fields_of, fields_view, names_of, type_of}
use Rattle.vx_data_buffers.specs.Layout.{buffer_count, field_buffer_count}
use Rattle.vx_data_buffers.proofs.counts.+count.Given as goal

abbrev pub decreases-buffer_count : goal.decreases-buffer_count
decreases-buffer_count l = 2 * buffer_count (type_of l.t.now)

abbrev pub decreases-field_buffer_count : goal.decreases-field_buffer_count
decreases-field_buffer_count l = 2 * field_buffer_count (fields_of l.fields.now) + 1

abbrev pub invariant-field_buffer_count-loop-i : goal.invariant-field_buffer_count-loop-i
invariant-field_buffer_count-loop-i l =
    field_buffer_count (fields_of l.fields) ≡ l.count + field_buffer_count (fields_view (drop l.i (names_of l.fields)) (drop l.i l.types))
