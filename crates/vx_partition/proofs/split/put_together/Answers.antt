use Rattle.std.proofs.Common.{◌≡◌, ap, sym, ◌∙◌, length, rules}
use Rattle.std.specs.Slice.Iter.{iter_rest}
use Rattle.vx_tree.specs.Trees.{scope}
use Rattle.vx_tree.specs.Views.{bound_of, bounds_of}
use Rattle.vx_partition_laws.specs.Items.{struct_type}
use Rattle.vx_partition_laws.specs.Partitions.{partitions}
use Rattle.vx_partition.specs.Collecting.{groups_in}
use Rattle.vx_partition.specs.Filling.{filled, holes_seen}
use Rattle.vx_partition.specs.Packing.{all_holes, all_names}
use Rattle.vx_partition.proofs.Splits.{equally_many, parts_count, own_count}
use Rattle.vx_partition.proofs.split.put_together.Goals as goal

pub joined_holes-requires-clause-named : goal.joined_holes-requires-clause-named
joined_holes-requires-clause-named g c =
    let gs = groups_in c.args.groups in
    c.requires ∙ sym (parts_count g.A.PartitionKey.text gs c.in_ok-packed.packed.partitions.items c.in_ok-packed.ensures.partitions)

pub joined_holes-requires-clause-pieces_named : goal.joined_holes-requires-clause-pieces_named
joined_holes-requires-clause-pieces_named g c =
    let gs = groups_in c.args.groups in
    let text = g.A.PartitionKey.text in
    ap length c.in_ok-packed.ensures.names ∙ own_count text gs ∙ sym (parts_count text gs c.in_ok-packed.packed.partitions.items c.in_ok-packed.ensures.partitions)

pub returns-clause-root : goal.returns-clause-root
returns-clause-root g c =
    let gs = groups_in c.args.groups in
    let text = g.A.PartitionKey.text in
    let names = c.args.names in
    let ps = bounds_of c.in_ok-packed.packed.partitions.items in
    let own = c.in_ok-packed.packed.names.items in
    let b = bound_of c.args.e.now in
    let made : holes_seen c.in_ok-holes.holes.items ≡ all_holes (scope (struct_type names ps)) names own ps = search rules in
    let holes : holes_seen c.as_slice.result.now ≡ all_holes (scope (struct_type names (partitions text gs))) names (all_names text gs) (partitions text gs) =
    ap holes_seen c.as_slice.ensures.value ∙ made
    ∙ ap (λ ns. all_holes (scope (struct_type names ps)) names ns ps) c.in_ok-packed.ensures.names
    ∙ ap (λ bs. all_holes (scope (struct_type names bs)) names (all_names text gs) bs) c.in_ok-packed.ensures.partitions in
    let done : filled (holes_seen c.as_slice.result.now) b (iter_rest c.iter.result) ≡ (bound_of c.in_ok-fill.field-0, iter_rest c.fill.new.marks) = c.in_ok-fill.ensures in
    (iter_rest c.fill.new.marks, ap (λ hs. filled hs b c.args.marks.now) (sym holes) ∙ ap (filled (holes_seen c.as_slice.result.now) b) (sym c.iter.ensures.rest) ∙ done)

pub returns-clause-counts : goal.returns-clause-counts
returns-clause-counts g c =
    let gs = groups_in c.args.groups in
    equally_many g.A.PartitionKey.text gs c.args.names c.in_ok-packed.packed.annotations.items c.in_ok-packed.packed.partitions.items c.requires c.in_ok-packed.ensures.annotations c.in_ok-packed.ensures.partitions
