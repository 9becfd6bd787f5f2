use Rattle.std.proofs.Common.{◌≡◌, [], ◌++◌, codes, get_or, append_assoc, ap, ◌∙◌, rules, arith}
use Rattle.std.proofs.Output.{has_written_append, has_written_of_eq}
use Rattle.vx_fn.specs.Texts.{named_texts}
use Rattle.vx_tree.specs.Texts.{sql}
use Rattle.vx_tree.specs.Trees.{unbound}
use Rattle.vx_tree.specs.Views.{bound_of}
use Rattle.vx_tree.specs.declared.bound.BoundExpression.{BoundExpression}
use Rattle.vx_tree.proofs.Texts.{length-texts, get_or-texts, get_or-named_texts}
use Rattle.vx_partition.specs.Partitioned.{texts_of}
use Rattle.vx_partition.proofs.shown.fmt_partition.Goals as goal

pub returns : goal.returns
returns g c plain ok =
    let parts = c.args.partitions.now in
    let view = λ (b : BoundExpression). unbound (bound_of b) in
    let name = c.fmt.ensures.writes plain (search rules) in
    let colon = c.write_str.ensures.writes name.plain (search rules) in
    let part = c.fmt-2.ensures.writes colon.plain ok in
    let a = c.index-names-index.result in
    let shown = get_or-texts view parts c.args.index c.index-partitions-index.result c.requires.given c.index-partitions-index.is in
    let whole : (a ++ codes ": ") ++ sql (view c.index-partitions-index.result) ≡ get_or (named_texts c.args.names.now (texts_of parts)) c.args.index [] =
    append_assoc a _ _ ∙ ap (λ t. a ++ (codes ": " ++ t)) shown ∙ get_or-named_texts c.args.names.now (texts_of parts) c.args.index a c.requires.named (omega (arith, length-texts view parts, c.requires.given)) c.index-names-index.is in
    has_written_of_eq _ _ _ _ _ whole (has_written_append _ _ _ _ _ _ (has_written_append _ _ _ _ _ _ name colon) part)
