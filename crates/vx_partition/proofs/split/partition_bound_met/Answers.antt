use Rattle.std.proofs.Common.{◌≡◌, Ok, inl, inr, ◌∙◌, sym}
use Rattle.std.proofs.lemmas.Result.{err_from_is_err_and}
use Rattle.vx_tree.specs.Views.{bound_of, bounds_of}
use Rattle.vx_partition_laws.proofs.Recombined.{splits_recombine}
use Rattle.vx_partition_laws.specs.Partitions.{partition_names}
use Rattle.vx_partition_laws.specs.Pieces.{groups}
use Rattle.vx_partition.specs.Collecting.{groups_in}
use Rattle.vx_partition.specs.Partitioned.{free_names}
use Rattle.vx_partition.proofs.Splits.{all_short, answered, named_count, names_answered, names_same}
use Rattle.vx_partition.proofs.split.partition_bound_met.Goals as goal

pub returns-in_err-names-clause-names : goal.returns-in_err-names-clause-names
returns-in_err-names-clause-names g c = λ only h.
    let p = err_from_is_err_and c.from_residual-in_err-names.result c.from_residual-in_err-names.ensures.1 in
    let same = names_same g.A.PartialEq.eq g.A.PartitionKey.name g.met.A.PartitionKey.same_name (groups_in c.in_ok-groups.groups) (groups g.A.PartialEq.eq only (bound_of c.args.e.now)) (c.in_ok-groups.ensures.found only h) in
    rw (p.1, p.2) (elim c.in_err-names.ensures [
      | inl memory ↦ inl memory
      | inr taken ↦ inr (sym same ∙ taken)
    ])

pub put_together-requires : goal.put_together-requires
put_together-requires g c = named_count g.A.PartitionKey.name (groups_in c.in_ok-groups.groups) c.in_ok-names.names c.in_ok-names.ensures

pub returns-clause-names : goal.returns-clause-names
returns-clause-names g c = λ only h.
    let eq = g.A.PartialEq.eq in
    let name = g.A.PartitionKey.name in
    let gs = groups_in c.in_ok-groups.groups in
    let all = groups eq only (bound_of c.args.e.now) in
    let same = names_same eq name g.met.A.PartitionKey.same_name gs all (c.in_ok-groups.ensures.found only h) in
    let given : free_names (partition_names name all) ≡ Ok c.in_ok-names.names = sym same ∙ c.in_ok-names.ensures in
    names_answered c.put_together.result (λ p. p.partition_names) c.in_ok-names.names _ given c.put_together.ensures.names c.put_together.ensures.memory

pub returns-clause-split : goal.returns-clause-split
returns-clause-split g c = λ only h.
    let eq = g.A.PartialEq.eq in
    let e = c.put_together.ensures in
    answered eq g.met.A.Eq.laws (splits_recombine eq g.met.A.Eq.laws) g.A.PartitionKey.text g.A.PartitionKey.name g.met.A.PartitionKey.same_text g.met.A.PartitionKey.same_name only (bound_of c.args.e.now)
    (groups_in c.in_ok-groups.groups) (c.in_ok-groups.ensures.found only h) c.in_ok-names.names c.in_ok-names.ensures
    c.put_together.result (λ p. p.partition_names) (λ p. p.partition_annotations.items) (λ p. bounds_of p.partitions.items) (λ p. bound_of p.root) c.as_slice.result.now c.requires (all_short c.in_ok-groups.groups.entries)
    (c.as_slice.ensures.value ∙ c.in_ok-groups.ensures.marks only h) e.names e.annotations e.partitions e.root
