use Rattle.std.proofs.Common.{◌≡◌, ℕ, ◌+◌, ◌*◌, ◌<◌, ◌≤◌, drop, take, map}
use Rattle.vx_value.specs.StructColumns.{row_at, rows_in, types_in}
use Rattle.vx_value.specs.Views.{fields_of, fields_view, names_of, type_of}
use Rattle.vx_data_buffers.specs.Bytes.{bytes_in}
use Rattle.vx_data_buffers.specs.Layout.{buffer_count, field_buffer_count, fields_at}
use Rattle.vx_data_buffers.proofs.Fields.{behind}
use Rattle.vx_data_buffers.proofs.array.+array.Given as goal

abbrev pub decreases-array_at : goal.decreases-array_at
decreases-array_at l = 3 * buffer_count (type_of l.t.now)

abbrev pub decreases-columns_at : goal.decreases-columns_at
decreases-columns_at l = 3 * field_buffer_count (fields_of l.fields.now) + 1

abbrev pub invariant-columns_at-loop-field : goal.invariant-columns_at-loop-field
invariant-columns_at-loop-field l = record {
  values : (i : ℕ) → i < l.rows → fields_at (bytes_in l.buffers) (fields_of l.fields) l.first i
      ≡ behind (row_at i (rows_in l.columns.items)) (fields_at (bytes_in l.buffers) (fields_view (drop l.field (names_of l.fields)) (drop l.field l.types)) l.at i);
  types : types_in l.columns.items ≡ map type_of (take l.field l.types);
  count : l.first + field_buffer_count (fields_of l.fields) ≡ l.at + field_buffer_count (fields_view (drop l.field (names_of l.fields)) (drop l.field l.types));
  onward : l.first ≤ l.at;
}
