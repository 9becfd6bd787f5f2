use Rattle.vx_partition.specs.Collecting.{groups_in}
use Rattle.vx_partition.proofs.Packs.{PackedSo}
use Rattle.vx_partition.proofs.pack.pack_groups.Given as goal

abbrev pub invariant-loop-annotation : goal.invariant-loop-annotation
invariant-loop-annotation g l =
    PackedSo g.A.PartitionKey.text (groups_in l.fn.groups) l.packed.annotations.items l.packed.names.items l.packed.partitions.items l.annotation-iterator
