use Rattle.std.proofs.Common.{◌≡◌, ◌+◌, ◌-◌, ◌*◌, ◌≤◌, drop, map}
use Rattle.std.specs.Prelude.{Ok}
use Rattle.vx_value.specs.Views.{fields_of, fields_view, names_of, type_of, value_of}
use Rattle.vx_data_buffers.specs.Results.{each_from}
use Rattle.vx_data_buffers.specs.Bytes.{bytes_in}
use Rattle.vx_data_buffers.specs.Layout.{buffer_count, field_buffer_count, fields_at, value_at}
use Rattle.vx_data_buffers.proofs.Fields.{behind}
use Rattle.vx_data_buffers.proofs.values.+read.Given as goal

abbrev pub decreases-value_at : goal.decreases-value_at
decreases-value_at l = 2 * buffer_count (type_of l.t.now)

abbrev pub decreases-items : goal.decreases-items
decreases-items l = 2 * buffer_count (type_of l.t.now) + 1

abbrev pub decreases-fields_at : goal.decreases-fields_at
decreases-fields_at l = 2 * field_buffer_count (fields_of l.fields.now) + 1

abbrev pub invariant-items-loop-i : goal.invariant-items-loop-i
invariant-items-loop-i l = each_from (value_at (bytes_in l.buffers) (type_of l.t) l.at) l.from (l.i - l.from) ≡ Ok (map value_of l.items.items)

abbrev pub invariant-fields_at-loop-field : goal.invariant-fields_at-loop-field
invariant-fields_at-loop-field l = record {
  values : fields_at (bytes_in l.buffers) (fields_of l.fields) l.first l.i
      ≡ behind (map value_of l.values.items) (fields_at (bytes_in l.buffers) (fields_view (drop l.field (names_of l.fields)) (drop l.field l.types)) l.at l.i);
  count : l.first + field_buffer_count (fields_of l.fields) ≡ l.at + field_buffer_count (fields_view (drop l.field (names_of l.fields)) (drop l.field l.types));
  onward : l.first ≤ l.at;
}
