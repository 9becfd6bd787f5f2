use Rattle.std.proofs.Common.{◌≡◌, ◌∷◌, ◌++◌, [], length, map, rules, ap, ◌∙◌}
use Rattle.std.proofs.lemmas.List.{length-map}
use Rattle.vx_tree.specs.Views.{bound_of}
use Rattle.vx_partition_laws.specs.Partitions.{piece_names, partition}
use Rattle.vx_partition.proofs.Naming.{names_count}
use Rattle.vx_partition.proofs.pack.add_group.Goals as goal

pub pack-requires : goal.pack-requires
pack-requires g c =
    let text = g.A.PartitionKey.text c.args.annotation in
    let ps = c.as_slice.result.now in
    let own : c.in_ok-own.own ≡ piece_names text 0 (map bound_of ps) = search rules in
    ap length own ∙ names_count text 0 (map bound_of ps) ∙ length-map ps bound_of ∙ ap length c.as_slice.ensures.value

pub returns-clause-names : goal.returns-clause-names
returns-clause-names g c =
    let own : c.in_ok-own.own ≡ piece_names (g.A.PartitionKey.text c.args.annotation) 0 (map bound_of c.args.pieces.items) = search rules in
    c.in_ok-push-2.ensures.items ∙ ap (λ own. c.args.packed.now.names.items ++ own ∷ []) own

pub returns-clause-partitions : goal.returns-clause-partitions
returns-clause-partitions g c =
    let text = g.A.PartitionKey.text in
    let own : c.in_ok-own.own ≡ piece_names (text c.args.annotation) 0 (map bound_of c.args.pieces.items) = search rules in
    let part : bound_of c.in_ok-pack.field-0 ≡ partition text (c.args.annotation, map bound_of c.args.pieces.items) = search rules in
    (c.in_ok-pack.field-0, c.in_ok-push.ensures.items, part)
