use Rattle.std.proofs.Common.{◌≡◌, ◌++◌, drop}
use Rattle.vx_tree.specs.Views.{bound_of, bounds_of}
use Rattle.vx_partition.specs.Filling.{holes_seen}
use Rattle.vx_partition.specs.Packing.{all_holes}
use Rattle.vx_partition.proofs.holes.all_holes.Given as goal

abbrev pub invariant-loop-i : goal.invariant-loop-i
invariant-loop-i l =
    holes_seen l.holes.items ++ all_holes (bound_of l.root) (drop l.i l.names-2) (drop l.i l.piece_names) (bounds_of (drop l.i l.partitions)) ≡ all_holes (bound_of l.root) l.names l.piece_names (bounds_of l.partitions)
