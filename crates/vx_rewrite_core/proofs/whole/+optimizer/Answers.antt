use Rattle.std.proofs.Common.{◌+◌, ◌-◌, ◌*◌, ◌<◌, ◌≤◌, [], ◌∷◌, length, take, drop, drop_of_length-le, map, refl, sym, arith}
use Rattle.std.specs.Prelude.{unwrap_or}
use Rattle.std.specs.Option.{option_map}
use Rattle.std.proofs.lemmas.List.{append_assoc, take_rest}
use Rattle.vx_tree.specs.Nodes.{bound_children_of}
use Rattle.vx_tree.specs.Trees.{EachWellTyped}
use Rattle.vx_tree.specs.Views.{bound_of, bounds_of}
use Rattle.vx_tree.proofs.Children.{bounds_next, children_typed}
use Rattle.vx_rewrite_core.specs.Weights.{weight, weights}
use Rattle.vx_rewrite_core.proofs.RewrittenChildren.{next_form, next_normal, first_form, last_form, map-take_more}
use Rattle.vx_rewrite_core.proofs.Forms.{boxed, boxed-unwrap_or, form_below, form_again, form_or_itself}
use Rattle.vx_rewrite_core.proofs.Rebuilding.{node_again}
use Rattle.vx_rewrite_core.proofs.Weighing.{weights-children}
use Rattle.vx_rewrite_core.proofs.whole.+optimizer.Goals as goal

pub normal_form-returns-clause-form : goal.normal_form-returns-clause-form
normal_form-returns-clause-form g t c =
    let law = g.met.R.Rule.lawful c.args.rules.now in
    let root = rw c.in-Some.is at c.in_ok-current.ensures.form in
    form_below law c.requires root c.in_ok-optimize_current.ensures.form

pub optimize_current-returns-clause-form : goal.optimize_current-returns-clause-form
optimize_current-returns-clause-form g t c =
    rw (c.unwrap_or.ensures, boxed-unwrap_or c.in_ok-below.below c.args.current)
    (form_or_itself _ c.in_ok-below.below c.requires.typed (rw c.deref.ensures at c.in_ok-below.ensures.form) (rw c.deref.ensures at c.in_ok-below.ensures.none))

pub optimize_below-optimize_children-requires : goal.optimize_below-optimize_children-requires
optimize_below-optimize_children-requires g t c κs within =
    let b = bound_of c.args.tree.now in
    let lt : weights (bound_children_of b) < weight b = weights-children b c.requires.typed in
    let less : 5 * weights (bounds_of c.children.result.now) + 5 < 5 * weight b + 1 = rw c.children.ensures.trees (omega arith) in
    let typed : EachWellTyped (bounds_of c.children.result.now) = rw c.children.ensures.trees (children_typed b c.requires.typed) in
    (omega arith, (within, typed))

pub optimize_below-rebuilt-requires : goal.optimize_below-rebuilt-requires
optimize_below-rebuilt-requires g t c =
    let law = g.met.R.Rule.lawful c.args.rules.now in
    let forms = (rw (c.in-Some-2.is, c.children.ensures.trees) at c.in_ok-children.ensures.forms).forms in
    let made = node_again law _ _ _ (sym c.in-Some.ensures) c.requires.typed forms in
    rw made.1 made.2.typed

pub optimize_below-returns-clause-form : goal.optimize_below-returns-clause-form
optimize_below-returns-clause-form g t c =
    let law = g.met.R.Rule.lawful c.args.rules.now in
    let forms = (rw (c.in-Some-2.is, c.children.ensures.trees) at c.in_ok-children.ensures.forms).forms in
    let made = node_again law _ _ _ (sym c.in-Some.ensures) c.requires.typed forms in
    form_again law c.requires.typed made.2 (c.in_ok-rebuilt.ensures.form made.0 made.1)

pub optimize_children-normal_form-requires : goal.optimize_children-normal_form-requires
optimize_children-normal_form-requires g t c κs within =
    let x = c.index-children-i.result in
    let left = rw (bounds_next c.args.children.now c.loop-i.i x (omega arith) c.index-children-i.is) at c.loop-i.invariant.is in
    (omega (arith, left.light), (within, left.typed.0))

pub optimize_children-optimize_rest-requires : goal.optimize_children-optimize_rest-requires
optimize_children-optimize_rest-requires g t c κs within =
    let xs = c.args.children.now in
    let i = c.loop-i.i in
    let rest = take_rest xs (i + 1) in
    let left = rw (bounds_next xs i c.index-children-i.result (omega arith) c.index-children-i.is) at c.loop-i.invariant.is in
    let light : weights (bounds_of (take (length xs - (i + 1)) (drop (i + 1) xs))) ≤ weights (bounds_of xs) = rw rest (omega (arith, left.light)) in
    (omega arith, (within, rw rest left.typed.1))

pub optimize_children-returns-in-Some-clause-forms : goal.optimize_children-returns-in-Some-clause-forms
optimize_children-returns-in-Some-clause-forms g t c =
    let xs = c.args.children.now in
    let i = c.loop-i.i in
    let left = rw (bounds_next xs i c.index-children-i.result (omega arith) c.index-children-i.is) at c.loop-i.invariant in
    let none = rw c.in-Some.is at c.in_ok-form.ensures.none in
    first_form left (rw c.in-Some.is at c.in_ok-form.ensures.form) (λ n. let q = none.1 n in cc) (rw (c.in_ok-forms.ensures, take_rest xs (i + 1)) at c.in_ok-optimize_rest.ensures.forms)

pub optimize_children-loop-i-preserved : goal.optimize_children-loop-i-preserved
optimize_children-loop-i-preserved g t c =
    let x = c.index-children-i.result in
    let none = rw c.in_default.is at c.in_ok-form.ensures.none in
    rw (map-take_more c.args.children.now c.loop-i.i x (omega arith) c.index-children-i.is)
    (next_normal (rw (bounds_next c.args.children.now c.loop-i.i x (omega arith) c.index-children-i.is) at c.loop-i.invariant) (none.0 refl))

pub optimize_rest-normal_form-requires : goal.optimize_rest-normal_form-requires
optimize_rest-normal_form-requires g t c κs within =
    let x = c.child-item.result in
    let left = rw (bounds_next c.args.rest.now c.loop-child.child-index x (omega arith) c.child-item.is) at c.loop-child.invariant.left in
    (omega (arith, left.light), (within, left.typed.0))

pub optimize_rest-loop-child-preserved : goal.optimize_rest-loop-child-preserved
optimize_rest-loop-child-preserved g t c =
    let x = c.child-item.result in
    let before = c.loop-child.invariant in
    let left = rw (bounds_next c.args.rest.now c.loop-child.child-index x (omega arith) c.child-item.is) at before.left in
    let form = c.in_ok-form.form in
    let u = unwrap_or (option_map boxed form) (bound_of x) in
    record {
      so_far = _;
      behind = rw (c.in_ok-push_form.ensures, before.behind) (append_assoc (map bound_of c.args.forms.items) before.so_far (u ∷ []));
      left = next_form left (form_or_itself (bound_of x) form left.typed.0 c.in_ok-form.ensures.form c.in_ok-form.ensures.none);
    }

pub optimize_rest-returns-clause-forms : goal.optimize_rest-returns-clause-forms
optimize_rest-returns-clause-forms g t c =
    let left = rw (drop_of_length-le c.args.rest.now c.loop-child-test.false) at c.loop-child.invariant.left in
    record { behind = c.loop-child.invariant.so_far; forms = last_form left; is = c.loop-child.invariant.behind }
