use Rattle.std.proofs.Common.{◌≡◌, map}
use Rattle.std.specs.Prelude.{None, Ok}
use Rattle.vx_value.specs.Columns.{first_misfit}
use Rattle.vx_value.specs.Views.{type_of, value_of}
use Rattle.vx_data_buffers.specs.Results.{each_from}
use Rattle.vx_data_buffers.specs.Bytes.{bytes_in}
use Rattle.vx_data_buffers.specs.Rows.{row_of}
use Rattle.vx_data_buffers.proofs.column.rows_of.Given as goal

abbrev pub invariant-loop-row : goal.invariant-loop-row
invariant-loop-row l = record {
  rows : each_from (row_of (bytes_in l.buffers) (type_of l.t)) 0 l.row ≡ Ok (map value_of l.values.items);
  fit : first_misfit (type_of l.t) (map value_of l.values.items) ≡ None;
}
