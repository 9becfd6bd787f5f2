use Rattle.std.proofs.Common.{◌≡◌, drop}
use Rattle.vx_tree.specs.Equality.{equal_bounds}
use Rattle.vx_tree.specs.Views.{bounds_of}
use Rattle.vx_tree.proofs.equality.+equal_bound.Given as goal

-- the trees so far are equal
abbrev pub invariant-equal_bounds-loop-i : goal.invariant-equal_bounds-loop-i
invariant-equal_bounds-loop-i l = equal_bounds (bounds_of l.bs) (bounds_of l.cs) ≡ equal_bounds (bounds_of (drop l.i l.bs)) (bounds_of (drop l.i l.cs))
