use Rattle.std.proofs.Common.{◌≡◌, ◌∙◌, ap, subst, rules, Some, None}
use Rattle.vx_value.specs.Views.{type_of}
use Rattle.vx_tree.specs.Views.{bound_of, bounds_of}
use Rattle.vx_tree.proofs.Nodes.{length-node_types}
use Rattle.vx_query_split.specs.Division.{IsSplitOf, parts_of}
use Rattle.vx_query_split.proofs.Divided.{sound}
use Rattle.vx_query.proofs.Optimized.{unsplit, split_runs, forms_typed, forms_over}
use Rattle.vx_array_query.proofs.split.run_split.Goals as goal

pub optimize_partitions-requires-clause-count : goal.optimize_partitions-requires-clause-count
optimize_partitions-requires-clause-count c =
    let is : c.in_ok-split.field-0 ≡ Some c.in-Some.split = search rules in
    let split = subst (λ o. IsSplitOf (type_of c.dtype.result.now) (bound_of c.args.tree.now) (parts_of o)) is c.in_ok-split.ensures.split in
    (sound split).counted ∙ length-node_types c.in-Some.split.partitions.items

pub evaluate_split_array-answer-requires-clause-partitions : goal.evaluate_split_array-answer-requires-clause-partitions
evaluate_split_array-answer-requires-clause-partitions c = forms_typed c.in_ok-split-in-Some.ensures.forms

pub evaluate_split_array-answer-requires-clause-over : goal.evaluate_split_array-answer-requires-clause-over
evaluate_split_array-answer-requires-clause-over c =
    let is : c.in_ok-split.field-0 ≡ Some c.in-Some.split = search rules in
    let split = subst (λ o. IsSplitOf (type_of c.dtype.result.now) (bound_of c.args.tree.now) (parts_of o)) is c.in_ok-split.ensures.split in
    let s = sound split in
    let p = c.in-Some.split in
    let q = c.in_ok-split-in-Some in
    forms_over p.partition_names (bounds_of p.partitions.items) (bounds_of q.split.partitions.items) (bound_of p.root) (bound_of q.split.root) (bound_of c.args.tree.now)
    s.root_typed s.root_over s.recombines q.ensures.forms q.ensures.root c.args.batch.now.type c.requires.over

pub returns-in_ok-split-in-Some : goal.returns-in_ok-split-in-Some
returns-in_ok-split-in-Some c =
    let is : c.in_ok-split.field-0 ≡ Some c.in-Some.split = search rules in
    let over_it = subst (λ o. IsSplitOf (type_of c.dtype.result.now) (bound_of c.args.tree.now) (parts_of o)) is c.in_ok-split.ensures.split in
    let split = subst (λ t. IsSplitOf t (bound_of c.args.tree.now) (parts_of (Some c.in-Some.split))) c.dtype.ensures over_it in
    let q = c.in_ok-split-in-Some in
    split_runs c.args.batch.now (bound_of c.args.tree.now) c.evaluate_split_array-answer.result _ q.split.partition_names (bounds_of q.split.partitions.items) (bound_of q.split.root)
    split q.ensures.names q.ensures.forms q.ensures.root c.evaluate_split_array-answer.ensures

pub returns-in-None : goal.returns-in-None
returns-in-None c =
    let is : c.in_ok-split.field-0 ≡ None = search rules in
    let split = subst (λ t. IsSplitOf t (bound_of c.args.tree.now) (parts_of c.in_ok-split.field-0)) c.dtype.ensures c.in_ok-split.ensures.split in
    unsplit c.args.batch.now (bound_of c.args.tree.now) c.apply_array.result (parts_of c.in_ok-split.field-0) split (ap parts_of is) (c.apply_array.ensures.meaning c.requires.over)
