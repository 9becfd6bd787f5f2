use Rattle.std.proofs.Common.{◌≡◌, map, rules}
use Rattle.std.proofs.lemmas.Result.{IfOk-weaker}
use Rattle.std.specs.Option.{option_copied}
use Rattle.vx_tree.specs.Views.{bound_of, bounds_of}
use Rattle.vx_partition.specs.Only.{annotations_met, only_annotation}
use Rattle.vx_partition.proofs.Splits.{split_by_map}
use Rattle.vx_partition.proofs.split.split_by_map.Goals as goal

pub returns-clause-split : goal.returns-clause-split
returns-clause-split g c =
    let m = c.args.annotations.now in
    let b = bound_of c.args.e.now in
    let met : map option_copied c.as_slice.result.now ≡ annotations_met (only_annotation m) b = search rules in
    IfOk-weaker c.partition_bound_met.result _ _ (λ p split.
    split_by_map g.A.PartialEq.eq g.A.PartitionKey.text g.A.PartitionKey.name m b p.partition_names (bounds_of p.partitions.items) p.partition_annotations.items (bound_of p.root) split)
    (c.partition_bound_met.ensures.split (only_annotation m) met)
