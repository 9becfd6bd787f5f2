use Rattle.std.proofs.Common.{◌≡◌, ◌++◌, drop, length}
use Rattle.vx_tree.specs.Trees.{EachWellTyped, EachOver}
use Rattle.vx_tree.specs.Views.{bounds_of}
use Rattle.vx_places.specs.Walked.{AreSeen, columns_of}
use Rattle.vx_places.proofs.holes.columns_of.Given as goal

abbrev pub invariant-loop-column : goal.invariant-loop-column
invariant-loop-column l = record {
  typed : EachWellTyped (bounds_of (drop (length l.columns.items) l.children));
  over : EachOver (bounds_of (drop (length l.columns.items) l.children)) l.batch.type;
  seen : AreSeen l.batch.rows (bounds_of (drop (length l.columns.items) l.children)) l.column-iterator.rest.items;
  made : l.columns.items ++ columns_of (bounds_of (drop (length l.columns.items) l.children)) l.batch.rows ≡ columns_of (bounds_of l.children) l.batch.rows;
}
