use Rattle.std.proofs.Common.{ap, sym, ◌∙◌, ◌&&◌, ◌++◌, ◌∷◌, []}
use Rattle.std.specs.Prelude.{option_map}
use Rattle.vx_value.specs.Paths.{path_of}
use Rattle.vx_tree.specs.Views.{bound_of}
use Rattle.vx_prune_tree.specs.Bounding.{path_to}
use Rattle.vx_prune_tree.specs.Cases.{is_that_path}
use Rattle.vx_prune_tree.proofs.Found.{path_to-many, is_that_path-only}
use Rattle.vx_prune_tree.proofs.paths.+is_at.Goals as goal

pub is_item_at-returns-in_default-2 : goal.is_item_at-returns-in_default-2
is_item_at-returns-in_default-2 t c =
    sym (ap (λ o. is_that_path (option_map (λ p. p ++ c.args.name.now ∷ []) o) (path_of c.args.parts.now)) (path_to-many c.args.children.now c.in_default.len_at_least))

pub is_item_at-returns-then-eq : goal.is_item_at-returns-then-eq
is_item_at-returns-then-eq t c =
    let below = is_that_path (path_to (bound_of c.child-item.result)) (path_of c.in-Some.front.now) in
    let here = is_that_path-only c.args.children.now c.child-item.result c.args.parts.now c.in-Some.front.now c.in-Some.last.now c.args.name.now c.name_of.result.now c.eq.result
    c.in-len1.len_at_least c.in-len1.len_below c.child-item.is c.in-Some.ensures.cases.0 c.name_of.ensures c.eq.ensures in
    c.is_at.ensures ∙ sym (here ∙ ap (λ e. e && below) c.if-eq.true)

pub is_item_at-returns-else-eq : goal.is_item_at-returns-else-eq
is_item_at-returns-else-eq t c =
    let below = is_that_path (path_to (bound_of c.child-item.result)) (path_of c.in-Some.front.now) in
    let here = is_that_path-only c.args.children.now c.child-item.result c.args.parts.now c.in-Some.front.now c.in-Some.last.now c.args.name.now c.name_of.result.now c.eq.result
    c.in-len1.len_at_least c.in-len1.len_below c.child-item.is c.in-Some.ensures.cases.0 c.name_of.ensures c.eq.ensures in
    c.if-eq.false ∙ sym (here ∙ ap (λ e. e && below) c.if-eq.false)
