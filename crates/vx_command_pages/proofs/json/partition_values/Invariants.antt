use Rattle.std.proofs.Common.{length}
use Rattle.vx_command_pages.proofs.Partitions.{PartitionedSo}
use Rattle.vx_command_pages.proofs.json.partition_values.Given as goal

abbrev pub invariant-loop-name : goal.invariant-loop-name
invariant-loop-name l = PartitionedSo l.values.items l.names l.trees (length l.yielded)
