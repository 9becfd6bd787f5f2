use Rattle.std.proofs.Common.{◌≡◌, drop}
use Rattle.vx_tree.specs.Views.{bounds_of}
use Rattle.vx_sql.specs.Unsupported.{first_unsupported_from}
use Rattle.vx_sql.proofs.walk.+unsupported.Given as goal

abbrev pub invariant-look_below-loop-i : goal.invariant-look_below-loop-i
invariant-look_below-loop-i l = record {
  path : l.path.items ≡ l.initial.path.items;
  left : first_unsupported_from l.dialect l.i (bounds_of (drop l.i l.children)) ≡ first_unsupported_from l.dialect l.first (bounds_of (drop l.first l.children));
}
