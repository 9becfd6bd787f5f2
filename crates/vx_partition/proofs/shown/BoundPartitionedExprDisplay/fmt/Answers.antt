use Rattle.std.proofs.Common.{◌≡◌, ◌++◌, codes, append_assoc, ap, ◌∙◌, rules}
use Rattle.std.proofs.Output.{has_written_append, has_written_of_eq}
use Rattle.vx_fn.specs.Texts.{with_commas, named_texts}
use Rattle.vx_tree.specs.Texts.{sql}
use Rattle.vx_tree.specs.Trees.{unbound, unbound_each}
use Rattle.vx_tree.specs.Views.{bound_of, bounds_of}
use Rattle.vx_partition.specs.Partitioned.{partitioned_text, texts_of}
use Rattle.vx_partition.proofs.Showing.{texts_are}
use Rattle.vx_partition.proofs.shown.BoundPartitionedExprDisplay.fmt.Goals as goal

pub returns-clause-writes : goal.returns-clause-writes
returns-clause-writes g c plain ok =
    let p = c.args.self.now in
    let head = c.write_str.ensures.writes plain (search rules) in
    let root = c.fmt.ensures.writes head.plain (search rules) in
    let brace = c.write_str-2.ensures.writes root.plain (search rules) in
    let parts = c.fmt_partitions.ensures brace.plain (search rules) in
    let last = c.write_str-3.ensures.writes parts.plain ok in
    let shown = sql (unbound (bound_of p.root)) in
    let given = with_commas (named_texts c.as_slice.result.now (texts_of c.as_slice-2.result.now)) in
    let names : c.as_slice.result.now ≡ p.partition_names = c.as_slice.ensures in
    let whole = append_assoc (((codes "root: " ++ shown) ++ codes " {")) given (codes "}") ∙ append_assoc (codes "root: " ++ shown) (codes " {") (given ++ codes "}") ∙ append_assoc (codes "root: ") shown (codes " {" ++ (given ++ codes "}"))
    ∙ ap (λ t. codes "root: " ++ (shown ++ (codes " {" ++ (with_commas (named_texts c.as_slice.result.now t) ++ codes "}")))) (ap texts_of c.as_slice-2.ensures.value ∙ texts_are p.partitions.items)
    ∙ ap (λ ns. partitioned_text (unbound (bound_of p.root)) ns (unbound_each (bounds_of p.partitions.items))) names in
    has_written_of_eq _ _ _ _ _ whole (has_written_append _ _ _ _ _ _ (has_written_append _ _ _ _ _ _ (has_written_append _ _ _ _ _ _ (has_written_append _ _ _ _ _ _ head root) brace) parts) last)
