use Rattle.std.proofs.Common.{◌≡◌, [], ◌++◌, map}
use Rattle.vx_partition.specs.Collecting.{groups_in}
use Rattle.vx_partition.specs.Partitioned.{first_taken}
use Rattle.vx_partition_laws.specs.Partitions.{partition_names}
use Rattle.vx_partition.proofs.FreeNames.{HasNames}
use Rattle.vx_partition.proofs.names.free_names.Given as goal

-- what is left to look at decides as all do, the names so far begin them, and the set has those
abbrev pub invariant-loop-annotation : goal.invariant-loop-annotation
invariant-loop-annotation g l = record {
  decides : first_taken l.names.items (map g.A.PartitionKey.name l.annotation-iterator) ≡ first_taken [] (partition_names g.A.PartitionKey.name (groups_in l.groups));
  begins : l.names.items ++ map g.A.PartitionKey.name l.annotation-iterator ≡ partition_names g.A.PartitionKey.name (groups_in l.groups);
  seen : HasNames l.seen l.names.items;
}
