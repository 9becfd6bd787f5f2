use Rattle.std.proofs.Common.{◌≡◌, ◌≤◌, ℕ, length, map}
use Rattle.vx_value.specs.StructColumns.{columns_of, row_at, struct_rows}
use Rattle.vx_value.specs.Views.{value_of}
use Rattle.vx_value.proofs.struct_column.struct_rows.Given as goal

abbrev pub invariant-loop-i : goal.invariant-loop-i
invariant-loop-i l = record {
  so_far : map value_of l.structs.items ≡ struct_rows l.i (columns_of l.fn.columns.items);
  left : (k : ℕ) → l.i ≤ k → row_at k (columns_of l.columns.items) ≡ row_at k (columns_of l.fn.columns.items);
  long : map length (columns_of l.columns.items) ≡ map length (columns_of l.fn.columns.items);
}
