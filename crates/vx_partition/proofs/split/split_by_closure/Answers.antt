use Rattle.std.proofs.lemmas.Result.{IfOk-weaker}
use Rattle.vx_tree.specs.Views.{bound_of}
use Rattle.vx_partition.specs.Gathered.{gathered_map}
use Rattle.vx_partition.specs.Splitting.{IsMapOf}
use Rattle.vx_partition.proofs.Gathered.{gathered-annotated}
use Rattle.vx_partition.proofs.Mapped.{taken_or, taken_after, earlier}
use Rattle.vx_partition.proofs.split.split_by_closure.Goals as goal

pub returns-in-Err-clause-refusal : goal.returns-in-Err-clause-refusal
returns-in-Err-clause-refusal g c = earlier c.in-Err.ensures.refusal

pub returns-in-Ok-clause-split : goal.returns-in-Ok-clause-split
returns-in-Ok-clause-split g c =
    let eq = g.A.PartialEq.eq in
    let nodes = c.in-Ok.nodes in
    let m = gathered_map eq nodes in
    let given : IsMapOf eq (λ x r. goal.F-post g c.args.annotate.now x r) (bound_of c.args.e.now) m = gathered-annotated eq g.met.A.Eq.laws nodes (λ x r. goal.F-post g c.args.annotate.now x r) (bound_of c.args.e.now) c.in-Ok.ensures.nodes c.in-Ok.ensures.answers in
    IfOk-weaker c.split_by_numbers-split.result _ _ (λ p split. (m, given, split)) c.split_by_numbers-split.ensures.split

pub returns-in-Ok-clause-refusal : goal.returns-in-Ok-clause-refusal
returns-in-Ok-clause-refusal g c =
    let eq = g.A.PartialEq.eq in
    let nodes = c.in-Ok.nodes in
    let m = gathered_map eq nodes in
    let given : IsMapOf eq (λ x r. goal.F-post g c.args.annotate.now x r) (bound_of c.args.e.now) m = gathered-annotated eq g.met.A.Eq.laws nodes (λ x r. goal.F-post g c.args.annotate.now x r) (bound_of c.args.e.now) c.in-Ok.ensures.nodes c.in-Ok.ensures.answers in
    taken_or eq g.A.PartitionKey.name _ (bound_of c.args.e.now) c.split_by_numbers-split.result (λ p. p.partition_names) m _ given c.split_by_numbers-split.ensures.names

pub returns-in-Ok-clause-first : goal.returns-in-Ok-clause-first
returns-in-Ok-clause-first g c =
    let eq = g.A.PartialEq.eq in
    let nodes = c.in-Ok.nodes in
    let m = gathered_map eq nodes in
    let given : IsMapOf eq (λ x r. goal.F-post g c.args.annotate.now x r) (bound_of c.args.e.now) m = gathered-annotated eq g.met.A.Eq.laws nodes (λ x r. goal.F-post g c.args.annotate.now x r) (bound_of c.args.e.now) c.in-Ok.ensures.nodes c.in-Ok.ensures.answers in
    taken_after eq g.A.PartitionKey.name _ (bound_of c.args.e.now) c.split_by_numbers-split.result (λ p. p.partition_names) m _ _ given c.in-Ok.ensures.unrefused c.split_by_numbers-split.ensures.names
