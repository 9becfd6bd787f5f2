use Rattle.std.proofs.Common.{◌≡◌, Ok, ap, sym, ◌∙◌, rules, position, slice_get, None, Some}
use Rattle.std.specs.Option.{option_map, option_copied}
use Rattle.std.specs.Str.{bytes_eq}
use Rattle.vx_tree.specs.Views.{bound_of}
use Rattle.vx_partition.proofs.Finding.{named_at, at_found, copied_at, copied_seen}
use Rattle.vx_partition.proofs.partitioned.BoundPartitionedExpr.find_partition.Goals as goal

pub returns-in-Some : goal.returns-in-Some
returns-in-Some g c =
    let name = g.A.PartitionKey.name c.args.annotation.now in
    let names = c.args.self.now.partition_names in
    let parts = c.args.self.now.partitions.items in
    let at : position (bytes_eq name) names ≡ Some c.in-Some.i = search rules in
    let got : option_copied c.get.result ≡ slice_get c.deref.result.now c.in-Some.i = copied_at c.deref.result.now c.in-Some.i c.get.result c.get.ensures.lookup in
    let same : c.deref.result.now ≡ parts = c.deref.ensures.value in
    ap (λ o. Ok o) (named_at name names parts ∙ ap (at_found parts) at ∙ sym (ap (option_map bound_of) (got ∙ ap (λ xs. slice_get xs c.in-Some.i) same)) ∙ copied_seen c.get.result)

pub returns : goal.returns
returns g c =
    let name = g.A.PartitionKey.name c.args.annotation.now in
    let names = c.args.self.now.partition_names in
    let parts = c.args.self.now.partitions.items in
    let none : at_found parts (position (bytes_eq name) names) ≡ None = search rules in
    ap (λ o. Ok o) (named_at name names parts ∙ none)
