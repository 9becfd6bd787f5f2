use Rattle.std.proofs.Common.{◌≡◌, ◌<◌, ◌||◌, length, rules, sym, ap, subst, ◌∙◌}
use Rattle.std.specs.Prelude.{Some, slice_get}
use Rattle.indexmap.specs.IndexSet.{insert_key}
use Rattle.vx_tree.specs.Equality.{equal_bound}
use Rattle.vx_tree.specs.Nodes.{bound_children_of}
use Rattle.vx_tree.specs.Views.{bound_of}
use Rattle.vx_rewrite_analysis.specs.Numbers.{node_tree, equal_numbered, has_node, IsNumberOf, IsNumbered, KeepsNumbers}
use Rattle.vx_rewrite_analysis.specs.declared.numbers.NumberedNode.{NumberedNode}
use Rattle.vx_rewrite_analysis.proofs.Numbering.{keeps-insert, number-insert, has-insert}
use Rattle.vx_rewrite_analysis.proofs.OneNumber.{numbered-insert}
use Rattle.vx_rewrite_analysis.proofs.numbers.number_over.Goals as goal

pub returns-clause-kept : goal.returns-clause-kept
returns-clause-kept c =
    subst (KeepsNumbers c.args.nodes.now.keys) (sym c.in_ok-number.ensures.keys)
    (keeps-insert c.args.nodes.now.keys (record { tree = c.args.e; children = c.args.children }))

pub returns-clause-numbered : goal.returns-clause-numbered
returns-clause-numbered c =
    let added : NumberedNode = record { tree = c.args.e; children = c.args.children } in
    let tree : node_tree added ≡ bound_of c.args.e.now = search rules in
    subst IsNumbered (sym c.in_ok-number.ensures.keys)
    (numbered-insert c.args.nodes.now.keys added c.requires.numbered c.requires.within (c.requires.children ∙ ap bound_children_of (sym tree)))

pub returns-clause-number : goal.returns-clause-number
returns-clause-number c =
    let added : NumberedNode = record { tree = c.args.e; children = c.args.children } in
    let tree : node_tree added ≡ bound_of c.args.e.now = search rules in
    let number = c.in_ok-number.number in
    let keys = c.in_ok-number.ensures.keys in
    let stored = c.in_ok-number.ensures.stored in
    let within = subst (λ ns. number < length ns) keys c.in_ok-number.ensures.within in
    let got = subst (λ ns. slice_get ns number ≡ Some stored.0) keys stored.1 in
    let is : IsNumberOf (insert_key equal_numbered c.args.nodes.now.keys added) number (node_tree added) =
    number-insert c.args.nodes.now.keys added stored.0 number c.requires.numbered.0 c.requires.within (c.requires.children ∙ ap bound_children_of (sym tree)) within got stored.2 in
    let here : IsNumberOf c.insert_full.new.self.keys number (node_tree added) = subst (λ ns. IsNumberOf ns number (node_tree added)) (sym keys) is in
    (here.0, here.1 ∙ tree)

pub returns-clause-nodes : goal.returns-clause-nodes
returns-clause-nodes c =
    λ n.
    let added : NumberedNode = record { tree = c.args.e; children = c.args.children } in
    let tree : node_tree added ≡ bound_of c.args.e.now = search rules in
    let number = c.in_ok-number.number in
    let keys = c.in_ok-number.ensures.keys in
    let stored = c.in_ok-number.ensures.stored in
    let within = subst (λ ns. number < length ns) keys c.in_ok-number.ensures.within in
    let got = subst (λ ns. slice_get ns number ≡ Some stored.0) keys stored.1 in
    let is : IsNumberOf (insert_key equal_numbered c.args.nodes.now.keys added) number (node_tree added) =
    number-insert c.args.nodes.now.keys added stored.0 number c.requires.numbered.0 c.requires.within (c.requires.children ∙ ap bound_children_of (sym tree)) within got stored.2 in
    ap (has_node n) keys ∙ has-insert c.args.nodes.now.keys added number is n ∙ ap (λ b. equal_bound n b || has_node n c.args.nodes.now.keys) tree
