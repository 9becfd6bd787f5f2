use Rattle.std.proofs.Common.{rules, ◌≡◌, arith}
use Rattle.vx_partition_laws.specs.Partitions.{piece_name}
use Rattle.vx_partition.proofs.Naming.{name_next}
use Rattle.vx_partition.proofs.pack.piece_names.Goals as goal

pub loop-index-preserved : goal.loop-index-preserved
loop-index-preserved g c =
    let text = g.A.PartitionKey.text c.args.key.now in
    let named : c.in_ok-piece_name.field-0 ≡ piece_name text c.loop-index.index = search rules in
    name_next text c.args.pieces.now c.loop-index.index c.loop-index.names.items c.push.new.self.items c.in_ok-piece_name.field-0 _ (omega arith) named c.in_ok-push.ensures.items c.loop-index.invariant
