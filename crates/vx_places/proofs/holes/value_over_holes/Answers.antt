use Rattle.std.proofs.Common.{◌≡◌, ◌≤◌, ◌^◌, ◌∙◌, ap, sym, arith, rules, length}
use Rattle.vx_fn.specs.Views.{function_of}
use Rattle.vx_value.specs.Views.{type_of}
use Rattle.vx_tree.specs.Nodes.{bound_children_of}
use Rattle.vx_tree.specs.Trees.{node_types}
use Rattle.vx_tree.specs.Views.{bound_of, bounds_of}
use Rattle.vx_tree.proofs.Nodes.{length-node_types}
use Rattle.vx_places.specs.Holes.{names_from, structs_of, indexed_type}
use Rattle.vx_places.proofs.Faulted.{seen_quiet}
use Rattle.vx_places.proofs.Holed.{names_count, is_holed, holed_typed, holed_says}
use Rattle.vx_places.proofs.holes.value_over_holes.Goals as goal

pub node_over_holes-requires : goal.node_over_holes-requires
node_over_holes-requires c =
    let named : c.in_ok-names.names ≡ names_from 0 (length c.children.result.now) = cc c.in_ok-names.ensures.names in
    ap length named ∙ names_count (length c.children.result.now) ∙ sym (length-node_types c.children.result.now) ∙ ap (λ bs. length (node_types bs)) c.children.ensures.trees

pub apply_bound-column-requires : goal.apply_bound-column-requires
apply_bound-column-requires c =
    let b = bound_of c.args.b.now in
    let f = function_of c.args.scalar_fn.now in
    let many : length c.children.result.now ≡ length (node_types (bound_children_of b)) = sym (length-node_types c.children.result.now) ∙ ap (λ bs. length (node_types bs)) c.children.ensures.trees in
    let small : length (node_types (bound_children_of b)) ≤ 2 ^ 64 = omega (arith, many, c.indices.ensures.few) in
    let named : c.in_ok-names.names ≡ names_from 0 (length c.children.result.now) = cc c.in_ok-names.ensures.names in
    let typed : type_of c.dtype.result.now ≡ indexed_type (node_types (bound_children_of b)) = c.dtype.ensures ∙ ap (λ x. x.type) c.in_ok-structs.ensures ∙ ap (λ bs. indexed_type (node_types bs)) c.children-2.ensures.trees in
    let is = is_holed b (bound_of c.in_ok-node.node) f c.in_ok-names.names (type_of c.dtype.result.now) (named ∙ ap (names_from 0) many) typed c.in_ok-node.ensures in
    holed_typed b (bound_of c.in_ok-node.node) f small c.requires.function is c.requires.typed

pub returns : goal.returns
returns c =
    let b = bound_of c.args.b.now in
    let rows = c.args.batch.now.rows in
    let f = function_of c.args.scalar_fn.now in
    let many : length c.children.result.now ≡ length (node_types (bound_children_of b)) = sym (length-node_types c.children.result.now) ∙ ap (λ bs. length (node_types bs)) c.children.ensures.trees in
    let small : length (node_types (bound_children_of b)) ≤ 2 ^ 64 = omega (arith, many, c.indices.ensures.few) in
    let named : c.in_ok-names.names ≡ names_from 0 (length c.children.result.now) = cc c.in_ok-names.ensures.names in
    let typed : type_of c.dtype.result.now ≡ indexed_type (node_types (bound_children_of b)) = c.dtype.ensures ∙ ap (λ x. x.type) c.in_ok-structs.ensures ∙ ap (λ bs. indexed_type (node_types bs)) c.children-2.ensures.trees in
    let is = is_holed b (bound_of c.in_ok-node.node) f c.in_ok-names.names (type_of c.dtype.result.now) (named ∙ ap (names_from 0) many) typed c.in_ok-node.ensures in
    holed_says b (bound_of c.in_ok-node.node) f small c.requires.function is c.requires.typed rows c.in_ok-structs.structs c.apply_bound-column.result (c.in_ok-structs.ensures ∙ ap (λ bs. structs_of bs rows) c.children-2.ensures.trees)
    (seen_quiet rows (bound_children_of b) c.args.below.items c.requires.seen) c.apply_bound-column.ensures.meaning
