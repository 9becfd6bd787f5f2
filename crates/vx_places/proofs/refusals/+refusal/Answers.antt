use Rattle.std.proofs.Common.{◌≡◌, ◌∙◌, map, Ok, Err, ap, sym, subst, arith, rules}
use Rattle.vx_value.specs.Views.{type_of}
use Rattle.vx_tree.specs.Nodes.{children_of, sizes_of}
use Rattle.vx_tree.specs.Trees.{each_typed}
use Rattle.vx_tree.specs.Views.{tree_of, trees_of}
use Rattle.vx_tree.proofs.Seen.{item_smaller, sizes_of-children}
use Rattle.vx_tree.proofs.Typings.{next, end}
use Rattle.vx_places.specs.Refusals.{IsFirstRefusal, IsFirstRefusalIn}
use Rattle.vx_places.specs.Walked.{LeadsToNode, LeadsBelow}
use Rattle.vx_places.proofs.Places.{in_child, in_node, pushed_at, popped}
use Rattle.vx_places.proofs.Refused.{refuses_here, refuses_below, passed_one, passed_to}
use Rattle.vx_places.proofs.refusals.+refusal.Goals as goal

pub push_type-type_all-requires : goal.push_type-type_all-requires
push_type-type_all-requires t c =
    let below = sizes_of-children (tree_of c.args.e.now) in
    let those = ap sizes_of c.children.ensures.trees in
    (omega (arith, below, those, c.decreases), tt)

pub type_all-push_type-requires : goal.type_all-push_type-requires
type_all-push_type-requires t c =
    let below = item_smaller tree_of c.args.es.now c.loop-i.i c.index-es-i.result (omega arith) c.index-es-i.is in
    (omega (arith, below, c.decreases), tt)

pub push_type-returns-in_err-below-clause-place : goal.push_type-returns-in_err-below-clause-place
push_type-returns-in_err-below-clause-place t c =
    let s = type_of c.args.scope.now in
    let e = tree_of c.args.e.now in
    let es = trees_of c.children.result.now in
    let r = c.in_err-below.field-0.0 in
    let place = in_node (IsFirstRefusal s e) (IsFirstRefusalIn s es) c.args.path.now.items c.type_all.new.path.items r
    (λ i rest h. refuses_below s e es i rest r c.children.ensures.trees h) c.in_err-below.ensures.place in
    let is : c.from_residual.result ≡ Err r = search rules in
    subst (λ x. LeadsToNode (IsFirstRefusal s e) c.args.path.now.items x c.type_all.new.path.items) (sym is) place

pub push_type-push_type_over-requires : goal.push_type-push_type_over-requires
push_type-push_type_over-requires t c =
    let s = type_of c.args.scope.now in
    ap (λ es. each_typed es s) (sym c.children.ensures.trees) ∙ c.in_ok-below.ensures.types ∙ ap (λ ds. Ok (map type_of ds)) (sym c.as_slice.ensures.value)

pub push_type-returns-clause-place : goal.push_type-returns-clause-place
push_type-returns-clause-place t c =
    let s = type_of c.args.scope.now in
    let e = tree_of c.args.e.now in
    let has : each_typed (children_of e) s ≡ Ok (map type_of c.in_ok-below.below.items) = ap (λ es. each_typed es s) (sym c.children.ensures.trees) ∙ c.in_ok-below.ensures.types in
    pushed_at type_of (IsFirstRefusal s e) c.args.path.now.items c.type_all.new.path.items _ _ c.push_type_over.result _ c.in_ok-below.ensures.place
    (λ r h. refuses_here s e _ r has h) c.push_type_over.ensures

pub type_all-returns-in_err-push_type-clause-place : goal.type_all-returns-in_err-push_type-clause-place
type_all-returns-in_err-push_type-clause-place t c =
    let s = type_of c.args.scope.now in
    let es = c.args.es.now in
    let e = c.index-es-i.result in
    let r = c.in_err-push_type.field-0.0 in
    let place = in_child (IsFirstRefusal s (tree_of e)) (IsFirstRefusalIn s (trees_of es)) c.args.path.now.items c.loop-i.path.items c.push.new.self.items c.push_type.new.path.items c.loop-i.i r
    c.loop-i.invariant.path c.in_ok-push.ensures.items (λ rest h. passed_to es s c.loop-i.i e rest r (omega arith) c.index-es-i.is c.loop-i.invariant.left h) c.in_err-push_type.ensures.place in
    let is : c.from_residual-in_err-push_type.result ≡ Err r = search rules in
    subst (λ x. LeadsBelow (IsFirstRefusalIn s (trees_of es)) c.args.path.now.items x c.push_type.new.path.items) (sym is) place

pub type_all-loop-i-preserved : goal.type_all-loop-i-preserved
type_all-loop-i-preserved t c =
    let s = type_of c.args.scope.now in
    let es = c.args.es.now in
    let i = c.loop-i.i in
    let e = c.index-es-i.result in
    let pushed = c.in_ok-push_type.ensures.types in
    record {
      types = next es s c.loop-i.types.items c.push_type.new.types.items i e pushed.0 _ (omega arith) c.index-es-i.is pushed.1 pushed.2 c.loop-i.invariant.types;
      path = popped c.loop-i.path.items c.push.new.self.items c.push_type.new.path.items c.pop.new.self.items i _ c.in_ok-push.ensures.items c.in_ok-push_type.ensures.place (omega arith) c.pop.ensures.rest ∙ c.loop-i.invariant.path;
      left = passed_one es s i e (type_of pushed.0) (omega arith) c.index-es-i.is pushed.2 c.loop-i.invariant.left;
    }

pub type_all-returns-clause-types : goal.type_all-returns-clause-types
type_all-returns-clause-types t c = end c.args.es.now (type_of c.args.scope.now) c.loop-i.types.items c.loop-i.i _ (omega arith) c.loop-i.invariant.types
