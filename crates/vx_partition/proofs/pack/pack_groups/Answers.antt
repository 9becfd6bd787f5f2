use Rattle.std.proofs.Common.{◌≡◌, ◌∷◌, [], refl, rules}
use Rattle.vx_partition.specs.Collecting.{groups_in}
use Rattle.vx_partition.proofs.Packs.{packs_on, packs_end}
use Rattle.vx_partition.proofs.pack.pack_groups.Goals as goal

pub loop-annotation-preserved : goal.loop-annotation-preserved
loop-annotation-preserved g c =
    let l = c.loop-annotation in
    let next : l.annotation-iterator ≡ (c.in-Some.annotation, c.in-Some.pieces) ∷ c.next.new.self = search rules in
    let added = c.in_ok-add_group.ensures in
    packs_on g.A.PartitionKey.text (groups_in c.args.groups) l.packed.annotations.items _ l.packed.names.items _ l.packed.partitions.items _
    l.annotation-iterator c.next.new.self c.in-Some.annotation c.in-Some.pieces _ added.partitions.0 next
    added.annotations added.names added.partitions.1 refl added.partitions.2 l.invariant

pub returns-clause-partitions : goal.returns-clause-partitions
returns-clause-partitions g c =
    let l = c.loop-annotation in
    let end : l.annotation-iterator ≡ [] = search rules in
    packs_end g.A.PartitionKey.text (groups_in c.args.groups) l.packed.annotations.items l.packed.names.items l.packed.partitions.items l.annotation-iterator end l.invariant
