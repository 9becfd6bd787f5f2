use Rattle.std.proofs.Common.{◌≡◌, ◌∙◌, Ok, Err, ap, sym, subst, arith, rules, true, false}
use Rattle.std.proofs.lemmas.Grind.{common_steps}
use Rattle.std.specs.Prelude.{Some}
use Rattle.vx_fn.specs.Views.{function_of}
use Rattle.vx_tree.specs.Trees.{call}
use Rattle.vx_source_over.specs.Peers.{is_in}
use Rattle.vx_source_over.specs.Reading.{Refuses, Settles}
use Rattle.vx_source_over.specs.Settling.{contained, list_around, node_with}
use Rattle.vx_source_over.specs.Views.{other_of, settled_tree, settled_trees}
use Rattle.vx_source_over.proofs.Searched.{plain_node, list_refused, list_node, unlisted_node, gives_tree}
use Rattle.vx_source_over.proofs.searching.node_with.Goals as goal

pub returns-then-not-is_in-clause-tree : goal.returns-then-not-is_in-clause-tree
returns-then-not-is_in-clause-tree c =
    let f = function_of c.args.scalar_fn.now in
    let d = other_of c.args.beside in
    let ts = settled_trees c.args.below.items in
    let plain : is_in f d ≡ false = grind (arith, common_steps) in
    gives_tree c.node_over.result (call f ts) (node_with f d ts) c.node_over.ensures.tree c.node_over.ensures.memory (plain_node f d ts plain)

pub returns-in_err-list-clause-tree : goal.returns-in_err-list-clause-tree
returns-in_err-list-clause-tree c =
    let f = function_of c.args.scalar_fn.now in
    let d = other_of c.args.beside in
    let ts = settled_trees c.args.below.items in
    let searched : is_in f d ≡ true = grind (arith, common_steps) in
    let error = c.in_err-list.field-0.0 in
    let is : c.from_residual.result ≡ Err error = search rules in
    let refused = subst (λ xs. Refuses error (list_around (settled_trees xs))) c.as_slice.ensures.value c.in_err-list.ensures.list in
    subst (λ r. Settles settled_tree r (node_with f d ts)) (sym is) (list_refused f d ts error searched refused)

pub returns-in-Some-clause-tree : goal.returns-in-Some-clause-tree
returns-in-Some-clause-tree c =
    let f = function_of c.args.scalar_fn.now in
    let d = other_of c.args.beside in
    let ts = settled_trees c.args.below.items in
    let searched : is_in f d ≡ true = grind (arith, common_steps) in
    let l = c.in-Some.list in
    let made = ap (λ xs. list_around (settled_trees xs)) (sym c.as_slice.ensures.value) ∙ c.in_ok-list.ensures.list ∙ ap (λ o. Ok o) c.in-Some.is in
    gives_tree c.contained.result (contained f ts (Some l)) (node_with f d ts) (c.contained.ensures.tree f) c.contained.ensures.memory (list_node f d ts l searched made)

pub returns-in-None-clause-tree : goal.returns-in-None-clause-tree
returns-in-None-clause-tree c =
    let f = function_of c.args.scalar_fn.now in
    let d = other_of c.args.beside in
    let ts = settled_trees c.args.below.items in
    let searched : is_in f d ≡ true = grind (arith, common_steps) in
    let made = ap (λ xs. list_around (settled_trees xs)) (sym c.as_slice.ensures.value) ∙ c.in_ok-list.ensures.list ∙ ap (λ o. Ok o) c.in-None.is in
    gives_tree c.node_over-in-None.result (call f ts) (node_with f d ts) c.node_over-in-None.ensures.tree c.node_over-in-None.ensures.memory (unlisted_node f d ts searched made)
