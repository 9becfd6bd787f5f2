use Rattle.std.proofs.Common.{rules, ◌≡◌, suc, ◌<◌, ◌+◌, ◌-◌, ◌*◌, arith, length, take, drop, [], ◌∷◌, ◌++◌, Err, refl, sym}
use Rattle.std.proofs.lemmas.List.{append-nil, append_assoc, length-take-le, take_rest, take_all}
use Rattle.vx_dtype.specs.declared.error.VortexError.TheVariants.{OutOfMemory}
use Rattle.vx_tree.specs.Nodes.{bound_children_of, size_of, sizes_of}
use Rattle.vx_tree.specs.Trees.{bound, no_bound, unbound, unbound_each, WellTyped, EachWellTyped}
use Rattle.vx_tree.specs.Views.{bound_of, bounds_of}
use Rattle.vx_tree.proofs.Children.{children_typed, children_smaller}
use Rattle.vx_rewrite_fusing.specs.Conjuncts.{EachFused}
use Rattle.vx_rewrite_fusing.specs.Finding.{EachFusedOf, none_fused, FirstChanged}
use Rattle.vx_rewrite_fusing.proofs.Children.{children_fused, fused_children, bounds_of-append, bounds_of-take_more, all_fused, each_joined, item_fused, item_typed, item_smaller, first_changed, changed_inside, changed_unfused, drop_typed, drop_smaller, each_from, with_more, put_fused}
use Rattle.vx_rewrite_fusing.proofs.Refusals.{failed, spent}
use Rattle.vx_rewrite_fusing.proofs.Apart.{apart_then, apart_typed, conjuncts_apart, found_both, found_single, fused_apart}
use Rattle.vx_rewrite_fusing.proofs.Binaries.{left_smaller, right_smaller}
use Rattle.vx_rewrite_fusing.proofs.Growing.{typed_sides}
use Rattle.vx_rewrite_fusing.proofs.finding.+fusing.Goals as goal

pub fused_node-fused-requires : goal.fused_node-fused-requires
fused_node-fused-requires t c =
    let b = bound_of c.args.b.now in
    let xs = c.children-children.result.now in
    let x = c.index-children-i.result in
    let each : EachWellTyped (bounds_of xs) = rw c.children-children.ensures.trees (children_typed b c.requires) in
    let typed : WellTyped (bound_of x) = item_typed xs c.loop-i.i x (omega arith) c.index-children-i.is each in
    let less = item_smaller xs c.loop-i.i x (omega arith) c.index-children-i.is in
    let below : sizes_of (unbound_each (bounds_of xs)) < size_of (unbound b) = rw c.children-children.ensures.trees (children_smaller b) in
    let smaller : 8 * size_of (unbound (bound_of x)) + 4 < 8 * size_of (unbound b) + 1 = omega arith in
    search rules

pub fused_node-returns-in_err-changed : goal.fused_node-returns-in_err-changed
fused_node-returns-in_err-changed t c =
    let p = c.in_err-changed.ensures in
    let same : c.from_residual.result ≡ Err c.in_err-changed.field-0.0 = search rules in
    failed _ _ same p.1 (λ f. p.0 (item_fused c.children-children.result.now c.loop-i.i c.index-children-i.result (omega arith) c.index-children-i.is (rw c.children-children.ensures.trees (fused_children (bound_of c.args.b.now) f))))

pub fused_node-fused_from-requires : goal.fused_node-fused_from-requires
fused_node-fused_from-requires t c =
    let b = bound_of c.args.b.now in
    let p = rw c.in-Some.is at c.in_ok-changed.ensures in
    let first : FirstChanged (bound_children_of b) c.loop-i.i (bound_of c.in-Some.changed.value) =
    rw (← c.children-children.ensures.trees) (first_changed c.children-children.result.now c.loop-i.i c.index-children-i.result (omega arith) c.index-children-i.is c.loop-i.invariant p.0 p.1) in
    let smaller : 8 * size_of (unbound b) < 8 * size_of (unbound b) + 1 = omega arith in
    search rules

pub fused_node-loop-i-preserved : goal.fused_node-loop-i-preserved
fused_node-loop-i-preserved t c =
    let x = c.index-children-i.result in
    let xs = c.children-children.result.now in
    rw (bounds_of-take_more xs c.loop-i.i x (omega arith) c.index-children-i.is)
    (all_fused (bounds_of (take c.loop-i.i xs)) (bound_of x) c.loop-i.invariant (rw c.in_default.is at c.in_ok-changed.ensures))

pub fused_node-merge_root-requires : goal.fused_node-merge_root-requires
fused_node-merge_root-requires t c =
    let each : EachFused (bounds_of c.children-children.result.now) = rw (take_all c.loop-i.i c.children-children.result.now (omega arith)) at c.loop-i.invariant in
    children_fused (bound_of c.args.b.now) (rw (← c.children-children.ensures.trees) each)

pub fused_from-slice_bounds-copies_and-end : goal.fused_from-slice_bounds-copies_and-end
fused_from-slice_bounds-copies_and-end t c =
    let inside = changed_inside c.children-children.result.now _ c.args.i _ c.children-children.ensures.trees c.requires.first in
    let count = length-take-le c.args.i c.children-children.result.now (omega arith) in
    omega arith

pub fused_from-overflow_add-i : goal.fused_from-overflow_add-i
fused_from-overflow_add-i t c =
    let inside = changed_inside c.children-children.result.now _ c.args.i _ c.children-children.ensures.trees c.requires.first in
    grind arith

pub fused_from-offset_bounds-children-i : goal.fused_from-offset_bounds-children-i
fused_from-offset_bounds-children-i t c =
    let inside = changed_inside c.children-children.result.now _ c.args.i _ c.children-children.ensures.trees c.requires.first in
    search rules

pub fused_from-slice_bounds-fused_rest-count : goal.fused_from-slice_bounds-fused_rest-count
fused_from-slice_bounds-fused_rest-count t c =
    let inside = changed_inside c.children-children.result.now _ c.args.i _ c.children-children.ensures.trees c.requires.first in
    search rules

pub fused_from-slice_bounds-fused_rest-start : goal.fused_from-slice_bounds-fused_rest-start
fused_from-slice_bounds-fused_rest-start t c =
    let inside = changed_inside c.children-children.result.now _ c.args.i _ c.children-children.ensures.trees c.requires.first in
    search rules

pub fused_from-fused_rest-requires : goal.fused_from-fused_rest-requires
fused_from-fused_rest-requires t c =
    let b = bound_of c.args.b.now in
    let xs = c.children-children.result.now in
    let n = c.args.i + 1 in
    let rest = take_rest xs n in
    let each : EachWellTyped (bounds_of xs) = rw c.children-children.ensures.trees (children_typed b c.requires.typed) in
    let typed : EachWellTyped (bounds_of (take (length xs - n) (drop n xs))) = rw rest (drop_typed n xs each) in
    let less = drop_smaller n xs in
    let below : sizes_of (unbound_each (bounds_of xs)) < size_of (unbound b) = rw c.children-children.ensures.trees (children_smaller b) in
    let smaller : 8 * sizes_of (unbound_each (bounds_of (take (length xs - n) (drop n xs)))) + 5 < 8 * size_of (unbound b) = rw rest (omega arith) in
    search rules

pub fused_from-returns-in_err-front : goal.fused_from-returns-in_err-front
fused_from-returns-in_err-front t c =
    let same : c.from_residual.result ≡ Err OutOfMemory = search rules in
    spent _ _ same (λ f. changed_unfused _ c.args.i _ c.requires.first (fused_children (bound_of c.args.b.now) f))

pub fused_from-returns-in_err-all : goal.fused_from-returns-in_err-all
fused_from-returns-in_err-all t c =
    let same : c.from_residual-in_err-all.result ≡ Err OutOfMemory = search rules in
    spent _ _ same (λ f. changed_unfused _ c.args.i _ c.requires.first (fused_children (bound_of c.args.b.now) f))

pub fused_from-fused_over-requires-clause-each : goal.fused_from-fused_over-requires-clause-each
fused_from-fused_over-requires-clause-each t c =
    let xs = c.children-children.result.now in
    let i = c.args.i in
    let changed = c.args.changed.value in
    let rest = c.in_ok-all.ensures.fused in
    let first : FirstChanged (bounds_of xs) i (bound_of changed) = rw c.children-children.ensures.trees c.requires.first in
    let next : i + 1 ≡ suc i = omega arith in
    let behind : EachFusedOf (bounds_of (drop (suc i) xs)) (bounds_of rest.0) = rw (take_rest xs (i + 1), next) at rest.2 in
    let front : bounds_of c.in_ok-front.front.items ≡ with_more (bounds_of (take i xs)) (bound (bound_of changed) no_bound) = rw (c.in_ok-front.ensures.trees, bounds_of-append (take i xs) (changed ∷ [])) refl in
    rw (← c.children-children.ensures.trees, rest.1, bounds_of-append c.in_ok-front.front.items rest.0, front) (each_from xs i (bound_of changed) first behind)

pub fused_from-returns-in_err-fused_over : goal.fused_from-returns-in_err-fused_over
fused_from-returns-in_err-fused_over t c =
    let same : c.from_residual-in_err-fused_over.result ≡ Err OutOfMemory = search rules in
    spent _ _ same (λ f. changed_unfused _ c.args.i _ c.requires.first (fused_children (bound_of c.args.b.now) f))

pub fused_from-returns : goal.fused_from-returns
fused_from-returns t c = (λ f. changed_unfused _ c.args.i _ c.requires.first (fused_children (bound_of c.args.b.now) f), c.in_ok-fused_over.ensures.fused)

pub fused_rest-loop-child-init : goal.fused_rest-loop-child-init
fused_rest-loop-child-init t c = ([], sym (append-nil c.args.list.items), none_fused)

pub fused_rest-fused-requires : goal.fused_rest-fused-requires
fused_rest-fused-requires t c =
    let xs = c.args.rest.now in
    let x = c.child-item.result in
    let typed : WellTyped (bound_of x) = item_typed xs c.loop-child.child-index x (omega arith) c.child-item.is c.requires in
    let less = item_smaller xs c.loop-child.child-index x (omega arith) c.child-item.is in
    let smaller : 8 * size_of (unbound (bound_of x)) + 4 < 8 * sizes_of (unbound_each (bounds_of xs)) + 5 = omega arith in
    search rules

pub fused_rest-loop-child-preserved : goal.fused_rest-loop-child-preserved
fused_rest-loop-child-preserved t c =
    let x = c.child-item.result in
    let before = c.loop-child.invariant in
    let put = c.in_ok-push_fused.ensures in
    let more = bounds_of-take_more c.args.rest.now c.loop-child.child-index x (omega arith) c.child-item.is in
    let fused = put_fused put.0 c.in_ok-changed.changed c.in_ok-changed.ensures put.2 in
    (before.0 ++ put.0 ∷ [], rw (put.1, before.1) (append_assoc c.args.list.items before.0 (put.0 ∷ [])), rw (more, bounds_of-append before.0 (put.0 ∷ [])) (each_joined before.2 fused))

pub fused_rest-returns-clause-fused : goal.fused_rest-returns-clause-fused
fused_rest-returns-clause-fused t c =
    let done = c.loop-child.invariant in
    (done.0, done.1, rw (take_all c.loop-child.child-index c.args.rest.now (omega arith)) at done.2)

pub conjuncts_fused-returns-in_default : goal.conjuncts_fused-returns-in_default
conjuncts_fused-returns-in_default t c = found_single (bound_of c.args.b.now) c.fused_node.result c.in_default.ensures c.fused_node.ensures

pub conjuncts_fused-conjuncts_fused-requires : goal.conjuncts_fused-conjuncts_fused-requires
conjuncts_fused-conjuncts_fused-requires t c =
    let typed : WellTyped (bound_of c.in-Some.l.now) = (typed_sides c.in-Some.ensures c.requires).0 in
    let less : size_of (unbound (bound_of c.in-Some.l.now)) < size_of (unbound (bound_of c.args.b.now)) = left_smaller c.in-Some.ensures in
    let smaller : 8 * size_of (unbound (bound_of c.in-Some.l.now)) + 2 < 8 * size_of (unbound (bound_of c.args.b.now)) + 2 = omega arith in
    search rules

pub conjuncts_fused-returns-in_err-left : goal.conjuncts_fused-returns-in_err-left
conjuncts_fused-returns-in_err-left t c =
    let p = c.in_err-left.ensures in
    let same : c.from_residual.result ≡ Err c.in_err-left.field-0.0 = search rules in
    failed _ _ same p.1 (λ f. p.0 (conjuncts_apart c.in-Some.ensures f).0)

pub conjuncts_fused-conjuncts_fused-requires-2 : goal.conjuncts_fused-conjuncts_fused-requires-2
conjuncts_fused-conjuncts_fused-requires-2 t c =
    let typed : WellTyped (bound_of c.in-Some.r.now) = (typed_sides c.in-Some.ensures c.requires).1 in
    let less : size_of (unbound (bound_of c.in-Some.r.now)) < size_of (unbound (bound_of c.args.b.now)) = right_smaller c.in-Some.ensures in
    let smaller : 8 * size_of (unbound (bound_of c.in-Some.r.now)) + 2 < 8 * size_of (unbound (bound_of c.args.b.now)) + 2 = omega arith in
    search rules

pub conjuncts_fused-returns-in_err-right : goal.conjuncts_fused-returns-in_err-right
conjuncts_fused-returns-in_err-right t c =
    let p = c.in_err-right.ensures in
    let same : c.from_residual-in_err-right.result ≡ Err c.in_err-right.field-0.0 = search rules in
    failed _ _ same p.1 (λ f. p.0 (conjuncts_apart c.in-Some.ensures f).1)

pub conjuncts_fused-returns : goal.conjuncts_fused-returns
conjuncts_fused-returns t c = found_both c.in_ok-left.left c.in_ok-right.right c.and_over.result c.in-Some.ensures c.requires c.in_ok-left.ensures c.in_ok-right.ensures c.and_over.ensures.over c.and_over.ensures.stays c.and_over.ensures.whole c.and_over.ensures.memory

pub fused_wide-returns-in_err-over : goal.fused_wide-returns-in_err-over
fused_wide-returns-in_err-over t c =
    let p = c.in_err-over.ensures in
    let same : c.from_residual.result ≡ Err c.in_err-over.field-0.0 = search rules in
    failed _ _ same p.1 (λ f. p.0 (fused_apart (bound_of c.args.b.now) f))

pub fused_wide-merged_over-requires-clause-typed : goal.fused_wide-merged_over-requires-clause-typed
fused_wide-merged_over-requires-clause-typed t c =
    let p = rw c.in-Some.is at c.in_ok-over.ensures in
    apart_typed c.requires p.1

pub fused_wide-returns-in_err-merged_over-in-Some : goal.fused_wide-returns-in_err-merged_over-in-Some
fused_wide-returns-in_err-merged_over-in-Some t c =
    let p = rw c.in-Some.is at c.in_ok-over.ensures in
    let same : c.from_residual-in_err-merged_over-in-Some.result ≡ Err OutOfMemory = search rules in
    spent _ _ same (λ f. p.0 (fused_apart (bound_of c.args.b.now) f))

pub fused_wide-returns-in_ok-merged_over-in-Some : goal.fused_wide-returns-in_ok-merged_over-in-Some
fused_wide-returns-in_ok-merged_over-in-Some t c =
    let p = rw c.in-Some.is at c.in_ok-over.ensures in
    (λ f. p.0 (fused_apart (bound_of c.args.b.now) f), apart_then p.1 c.in_ok-merged_over-in-Some.ensures.fused)
