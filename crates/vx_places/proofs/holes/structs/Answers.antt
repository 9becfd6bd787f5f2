use Rattle.std.proofs.Common.{◌≡◌, ◌∙◌, ap, sym, rules, length}
use Rattle.vx_tree.specs.Views.{bounds_of}
use Rattle.vx_tree.proofs.Nodes.{length-node_types}
use Rattle.vx_places.specs.Holes.{names_from}
use Rattle.vx_places.proofs.Holed.{names_count, count_of_columns, joined}
use Rattle.vx_places.proofs.holes.structs.Goals as goal

pub struct_of-requires : goal.struct_of-requires
struct_of-requires c =
    let children = c.args.children.now in
    let same : c.in_ok-names.names ≡ c.args.names.now = search rules in
    ap length same ∙ ap length c.requires.named ∙ names_count (length children) ∙ sym (length-node_types children) ∙ sym (ap length c.in_ok-columns.ensures ∙ count_of_columns (bounds_of children) c.args.batch.now.rows)

pub returns : goal.returns
returns c =
    let children = c.args.children.now in
    let same : c.in_ok-names.names ≡ c.args.names.now = search rules in
    joined (bounds_of children) c.args.batch.now.rows c.in_ok-names.names c.in_ok-columns.columns.items _ c.struct_of.result (same ∙ c.requires.named ∙ ap (names_from 0) (sym (length-node_types children))) c.in_ok-columns.ensures c.len.ensures c.struct_of.ensures.column
