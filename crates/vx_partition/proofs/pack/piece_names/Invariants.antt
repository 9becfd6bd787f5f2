use Rattle.std.proofs.Common.{◌≡◌, ◌++◌, drop, map}
use Rattle.vx_tree.specs.Views.{bound_of}
use Rattle.vx_partition_laws.specs.Partitions.{piece_names}
use Rattle.vx_partition.proofs.pack.piece_names.Given as goal

abbrev pub invariant-loop-index : goal.invariant-loop-index
invariant-loop-index g l =
    l.names.items ++ piece_names (g.A.PartitionKey.text l.key) l.index (map bound_of (drop l.index l.pieces)) ≡ piece_names (g.A.PartitionKey.text l.key) 0 (map bound_of l.pieces)
