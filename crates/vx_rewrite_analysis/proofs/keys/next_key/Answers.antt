use Rattle.std.proofs.Common.{◌≡◌, ◌<◌, length, map, get_or, rules, sym, ap, subst, ◌∙◌}
use Rattle.std.specs.Prelude.{All}
use Rattle.vx_tree.specs.Digests.{digests_of}
use Rattle.vx_tree.specs.Nodes.{bound_children_of}
use Rattle.vx_tree.specs.Views.{bound_of}
use Rattle.vx_rewrite_analysis.specs.Numbers.{node_tree, trees_at}
use Rattle.vx_rewrite_analysis.proofs.Digesting.{digests-below}
use Rattle.vx_rewrite_analysis.proofs.Numbering.{node-children, tree-read}
use Rattle.vx_rewrite_analysis.proofs.keys.next_key.Goals as goal

pub digests_at-requires : goal.digests_at-requires
digests_at-requires c =
    let ns = c.args.nodes.now in
    let node = c.index-nodes-len.result in
    let number = length c.args.digests.now.items in
    let place : c.len.result ≡ length c.args.digests.now.items = search rules in
    let is = subst (λ i. node ≡ get_or ns i node) place c.index-nodes-len.is in
    let below : All (λ k. k < number) node.children.items = (node-children ns c.requires.numbered number node c.requires.within is).1 in
    rw (c.as_slice.ensures.value, c.as_slice-2.ensures) below

pub over-key-requires : goal.over-key-requires
over-key-requires c =
    let ns = c.args.nodes.now in
    let ds = c.args.digests.now.items in
    let node = c.index-nodes-len.result in
    let number = length ds in
    let place : c.len.result ≡ length c.args.digests.now.items = search rules in
    let is = subst (λ i. node ≡ get_or ns i node) place c.index-nodes-len.is in
    let children = node-children ns c.requires.numbered number node c.requires.within is in
    let clone : bound_of c.in_ok-clone.field-0 ≡ node_tree node = search rules in
    let digests : map (λ k. get_or ds k 0) node.children.items ≡ digests_of (trees_at ns node.children.items) = digests-below ns ds node.children.items c.requires.digests children.1 in
    let lent : c.as_slice-3.result.now ≡ map (λ k. get_or ds k 0) node.children.items = search rules in
    lent ∙ digests ∙ ap digests_of (children.0 ∙ ap bound_children_of (tree-read ns number node c.requires.within is ∙ sym clone))
