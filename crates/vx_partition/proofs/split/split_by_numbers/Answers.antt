use Rattle.std.proofs.Common.{◌≡◌, map, rules, sym, subst}
use Rattle.std.proofs.lemmas.Result.{IfOk-weaker}
use Rattle.std.specs.Option.{option_copied}
use Rattle.vx_tree.specs.Views.{bound_of, bounds_of}
use Rattle.vx_partition.specs.Gathered.{gathered_map, IsOnly}
use Rattle.vx_partition.specs.Only.{annotations_met, only_annotation}
use Rattle.vx_partition.proofs.Gathered.{found-only}
use Rattle.vx_partition.proofs.Splits.{split_by_map}
use Rattle.vx_partition.proofs.split.split_by_numbers.Goals as goal

pub returns-clause-names : goal.returns-clause-names
returns-clause-names g c =
    let eq = g.A.PartialEq.eq in
    let nodes = c.args.nodes.now in
    let only = only_annotation (gathered_map eq nodes) in
    let is : IsOnly nodes only c.as_slice.result.now = subst (IsOnly nodes only) (sym c.as_slice.ensures.value) (found-only eq g.met.A.Eq.laws nodes c.in_ok-found.found.items c.in_ok-found.ensures.found) in
    let met : map option_copied c.as_slice-2.result.now ≡ annotations_met only (bound_of c.args.e.now) = search rules in
    c.partition_bound_met.ensures.names only met

pub returns-clause-split : goal.returns-clause-split
returns-clause-split g c =
    let eq = g.A.PartialEq.eq in
    let nodes = c.args.nodes.now in
    let m = gathered_map eq nodes in
    let only = only_annotation m in
    let is : IsOnly nodes only c.as_slice.result.now = subst (IsOnly nodes only) (sym c.as_slice.ensures.value) (found-only eq g.met.A.Eq.laws nodes c.in_ok-found.found.items c.in_ok-found.ensures.found) in
    let met : map option_copied c.as_slice-2.result.now ≡ annotations_met only (bound_of c.args.e.now) = search rules in
    IfOk-weaker c.partition_bound_met.result _ _ (λ p split.
    split_by_map eq g.A.PartitionKey.text g.A.PartitionKey.name m (bound_of c.args.e.now) p.partition_names (bounds_of p.partitions.items) p.partition_annotations.items (bound_of p.root) split)
    (c.partition_bound_met.ensures.split only met)
