use Rattle.std.proofs.Common.{◌+◌, ◌*◌, ◌≤◌, drop}
use Rattle.vx_value.specs.Views.{fields_of, fields_view, names_of, type_of}
use Rattle.vx_data_buffers.specs.Layout.{buffer_count, field_buffer_count}
use Rattle.vx_data_buffers.proofs.rows.+write.Given as goal

abbrev pub decreases-write_column : goal.decreases-write_column
decreases-write_column l = 2 * buffer_count (type_of l.t.now)

abbrev pub decreases-write_fields : goal.decreases-write_fields
decreases-write_fields l = 2 * field_buffer_count (fields_of l.fields.now) + 1

abbrev pub invariant-write_fields-loop-field : goal.invariant-write_fields-loop-field
invariant-write_fields-loop-field l = field_buffer_count (fields_view (drop l.field (names_of l.fields)) (drop l.field l.types)) ≤ field_buffer_count (fields_of l.fields)
