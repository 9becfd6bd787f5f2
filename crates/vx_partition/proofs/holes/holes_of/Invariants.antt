use Rattle.std.proofs.Common.{◌≡◌, ◌++◌, drop, map}
use Rattle.vx_tree.specs.Views.{bound_of, bounds_of}
use Rattle.vx_partition.specs.Packing.{holes_of}
use Rattle.vx_partition.proofs.holes.holes_of.Given as goal

abbrev pub invariant-loop-i : goal.invariant-loop-i
invariant-loop-i l =
    map bound_of l.holes.items ++ holes_of (bound_of l.from) (drop l.i l.names-2) (bounds_of (drop l.i l.pieces)) ≡ holes_of (bound_of l.from) l.names (bounds_of l.pieces)
