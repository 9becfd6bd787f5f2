use Rattle.std.proofs.Common.{◌≡◌, ◌∙◌, ap, map, length, arith}
use Rattle.vx_fn.specs.Views.{function_of}
use Rattle.vx_value.specs.Views.{type_of}
use Rattle.vx_tree.specs.Trees.{call}
use Rattle.vx_tree.specs.Views.{tree_of}
use Rattle.vx_source_over.specs.Views.{settled_tree, type_of_all}
use Rattle.vx_source_over.proofs.NodeTypes.{node_typed, trees_same, map_length}
use Rattle.vx_source_over.proofs.nodes.node_over.Goals as goal

pub returns-clause-typed : goal.returns-clause-typed
returns-clause-typed c = λ s h.
    let f = function_of c.args.scalar_fn.now in
    let types = c.in_ok-trees.types in
    let many = map_length tree_of settled_tree c.in_ok-trees.trees.items c.args.below.items c.in_ok-trees.ensures.trees in
    let count : c.len.result ≡ length c.args.below.items = grind (arith, many) in
    node_typed s f c.args.below.items (map type_of types.items) c.len.result _ _ h c.in_ok-trees.ensures.types count
    (c.in_ok-dtype.ensures.answer ∙ ap (λ xs. type_of_all f (map type_of xs) c.len.result) c.as_slice.ensures.value)
    (c.in_ok-tree.ensures ∙ ap (call f) (trees_same c.in_ok-trees.trees.items c.args.below.items c.in_ok-trees.ensures.trees))
