use Rattle.std.proofs.Common.{◌≡◌, ◌≢◌, ◌≤◌, ℕ, get_or, length, map, take}
use Rattle.vx_value.specs.Types.{null}
use Rattle.vx_value.specs.StructColumns.{row_at}
use Rattle.vx_value.specs.Views.{value_of}
use Rattle.vx_value.proofs.taking.take_row.Given as goal

abbrev pub invariant-loop-place : goal.invariant-loop-place
invariant-loop-place g l = let rows = g.C.TakeRow.rows in record {
  taken : map value_of l.items.items ≡ take l.place (row_at l.i (map rows l.initial.columns.items));
  left : (m : ℕ) → l.place ≤ m → get_or (row_at l.i (map rows l.columns.items)) m null ≡ get_or (row_at l.i (map rows l.initial.columns.items)) m null;
  others : (k : ℕ) → k ≢ l.i → row_at k (map rows l.columns.items) ≡ row_at k (map rows l.initial.columns.items);
  long : map length (map rows l.columns.items) ≡ map length (map rows l.initial.columns.items);
}
