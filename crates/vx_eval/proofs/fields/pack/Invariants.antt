use Rattle.std.proofs.Common.{◌≡◌, ◌≤◌, ℕ, length, map}
use Rattle.vx_value.specs.Fields.{data_of}
use Rattle.vx_value.specs.Types.{struct_of}
use Rattle.vx_eval.specs.Columns.{values_of, rows_views, row_at, each_row}
use Rattle.vx_eval.proofs.fields.pack.Given as goal

abbrev pub invariant-loop-i : goal.invariant-loop-i
invariant-loop-i l = record {
  so_far : values_of l.structs.items ≡ each_row l.i (λ k. struct_of (data_of (row_at (rows_views l.fn.columns.items) k)));
  left : (k : ℕ) → l.i ≤ k → row_at (rows_views l.columns.items) k ≡ row_at (rows_views l.fn.columns.items) k;
  long : map length (rows_views l.columns.items) ≡ map length (rows_views l.fn.columns.items);
}
