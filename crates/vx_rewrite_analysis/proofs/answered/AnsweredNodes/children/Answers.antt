use Rattle.std.proofs.Common.{◌≡◌, ◌<◌, get_or, sym, ap, subst, ◌∙◌}
use Rattle.std.specs.Prelude.{All}
use Rattle.vx_tree.specs.Nodes.{bound_children_of}
use Rattle.vx_rewrite_analysis.specs.Answered.{tree_of, trees_of}
use Rattle.vx_rewrite_analysis.proofs.Numbering.{node-children}
use Rattle.vx_rewrite_analysis.proofs.answered.AnsweredNodes.children.Goals as goal

pub returns-clause-trees : goal.returns-clause-trees
returns-clause-trees g c =
    let a = c.args.self.now in
    let i = c.args.number in
    let node = c.index-as_slice-number.result in
    let is : node ≡ get_or a.nodes.keys i node = c.index-as_slice-number.is ∙ ap (λ ns. get_or ns i node) c.as_slice.ensures.keys in
    let read = c.as_slice-2.ensures ∙ ap (λ n. n.children.items) (sym c.index-as_slice-number.is) in
    let here = node-children a.nodes.keys c.requires.numbered.0 i node c.requires.within is in
    subst (λ ks. trees_of a ks ≡ bound_children_of (tree_of a i)) (sym read) here.0

pub returns-clause-below : goal.returns-clause-below
returns-clause-below g c =
    let a = c.args.self.now in
    let i = c.args.number in
    let node = c.index-as_slice-number.result in
    let is : node ≡ get_or a.nodes.keys i node = c.index-as_slice-number.is ∙ ap (λ ns. get_or ns i node) c.as_slice.ensures.keys in
    let read = c.as_slice-2.ensures ∙ ap (λ n. n.children.items) (sym c.index-as_slice-number.is) in
    let here = node-children a.nodes.keys c.requires.numbered.0 i node c.requires.within is in
    subst (All (λ k. k < i)) (sym read) here.1
