use Rattle.std.proofs.Common.{◌≡◌, drop}
use Rattle.vx_tree.specs.Trees.{EachWellTyped, EachOver}
use Rattle.vx_tree.specs.Views.{bounds_of}
use Rattle.vx_places.proofs.Faulted.{Passed, SeenTo}
use Rattle.vx_places.proofs.faults.+fault.Given as goal

abbrev pub invariant-see_all-loop-i : goal.invariant-see_all-loop-i
invariant-see_all-loop-i l = record {
  typed : EachWellTyped (bounds_of (drop l.i l.trees));
  over : EachOver (bounds_of (drop l.i l.trees)) l.batch.type;
  seen : SeenTo l.trees l.batch.rows l.i l.columns.items;
  path : l.path.items ≡ l.initial.path.items;
  left : Passed l.trees l.batch.rows l.i;
}
