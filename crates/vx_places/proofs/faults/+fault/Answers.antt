use Rattle.std.proofs.Common.{◌≡◌, ◌∙◌, Err, ap, sym, subst, arith, rules}
use Rattle.vx_tree.specs.Nodes.{bound_children_of}
use Rattle.vx_tree.specs.Views.{bound_of, bounds_of}
use Rattle.vx_tree.proofs.Children.{typed_next, over_next}
use Rattle.vx_places.specs.Faults.{IsFirstFault, IsFirstFaultIn}
use Rattle.vx_places.specs.Walked.{LeadsToNode, LeadsBelow, AreSeen}
use Rattle.vx_places.proofs.Faulted.{faults_below, passed_one, passed_to, seen_quiet, seen_one, seen_all, seen_none, passed_none, valued_at}
use Rattle.vx_places.proofs.SeenNodes.{seen_children}
use Rattle.vx_places.proofs.Places.{in_child, in_node, popped}
use Rattle.vx_places.proofs.faults.+fault.Goals as goal

pub push_seen-push_value-requires-clause-seen : goal.push_seen-push_value-requires-clause-seen
push_seen-push_value-requires-clause-seen t c =
    let those = seen_children _ _ _ _ c.as_slice.result.now c.in-Scalar.is (c.as_slice.ensures.value ∙ ap (λ v. v.items) c.deref.ensures) in
    subst (λ bs. AreSeen c.args.batch.now.rows bs c.in_ok-below-in-Scalar.below.items) (sym those) c.in_ok-below-in-Scalar.ensures.seen

pub push_seen-returns-in_err-below-in-Scalar-clause-place : goal.push_seen-returns-in_err-below-in-Scalar-clause-place
push_seen-returns-in_err-below-in-Scalar-clause-place t c =
    let rows = c.args.batch.now.rows in
    let b = bound_of c.args.b.now in
    let bs = bounds_of c.as_slice.result.now in
    let r = c.in_err-below-in-Scalar.field-0.0 in
    let those = seen_children _ _ _ _ c.as_slice.result.now c.in-Scalar.is (c.as_slice.ensures.value ∙ ap (λ v. v.items) c.deref.ensures) in
    let place = in_node (IsFirstFault rows b) (IsFirstFaultIn rows bs) c.args.path.now.items c.see_all.new.path.items r
    (λ i rest h. faults_below rows b i rest r (subst (λ xs. IsFirstFaultIn rows xs i rest r) (sym those) h)) c.in_err-below-in-Scalar.ensures.place in
    let is : c.from_residual.result ≡ Err r = search rules in
    subst (λ x. LeadsToNode (IsFirstFault rows b) c.args.path.now.items x c.see_all.new.path.items) (sym is) place

pub push_seen-returns-in_ok-below-in-Scalar-clause-place : goal.push_seen-returns-in_ok-below-in-Scalar-clause-place
push_seen-returns-in_ok-below-in-Scalar-clause-place t c =
    let rows = c.args.batch.now.rows in
    let b = bound_of c.args.b.now in
    let those = seen_children _ _ _ _ c.as_slice.result.now c.in-Scalar.is (c.as_slice.ensures.value ∙ ap (λ v. v.items) c.deref.ensures) in
    let seen = subst (λ bs. AreSeen rows bs c.in_ok-below-in-Scalar.below.items) (sym those) c.in_ok-below-in-Scalar.ensures.seen in
    valued_at _ rows b c.args.path.now.items c.see_all.new.path.items c.push_value.result c.in_ok-below-in-Scalar.ensures.place (seen_quiet rows (bound_children_of b) _ seen) c.push_value.ensures

pub see_all-returns-in_err-push_seen-clause-place : goal.see_all-returns-in_err-push_seen-clause-place
see_all-returns-in_err-push_seen-clause-place t c =
    let rows = c.args.batch.now.rows in
    let es = c.args.trees.now in
    let e = c.index-trees-i.result in
    let r = c.in_err-push_seen.field-0.0 in
    let place = in_child (IsFirstFault rows (bound_of e)) (IsFirstFaultIn rows (bounds_of es)) c.args.path.now.items c.loop-i.path.items c.push.new.self.items c.push_seen.new.path.items c.loop-i.i r
    c.loop-i.invariant.path c.in_ok-push.ensures.items (λ rest h. passed_to es rows c.loop-i.i e rest r (omega arith) c.index-trees-i.is c.loop-i.invariant.left h) c.in_err-push_seen.ensures.place in
    let is : c.from_residual-in_err-push_seen.result ≡ Err r = search rules in
    subst (λ x. LeadsBelow (IsFirstFaultIn rows (bounds_of es)) c.args.path.now.items x c.push_seen.new.path.items) (sym is) place

pub see_all-loop-i-preserved : goal.see_all-loop-i-preserved
see_all-loop-i-preserved t c =
    let rows = c.args.batch.now.rows in
    let es = c.args.trees.now in
    let i = c.loop-i.i in
    let e = c.index-trees-i.result in
    let seen = c.in_ok-push_seen.ensures.seen in
    record {
      typed = (typed_next es i e (omega arith) c.index-trees-i.is c.loop-i.invariant.typed).1;
      over = (over_next c.args.batch.now.type es i e (omega arith) c.index-trees-i.is c.loop-i.invariant.over).1;
      seen = seen_one es rows i e c.loop-i.columns.items c.push_seen.new.columns.items seen.0 (omega arith) c.index-trees-i.is seen.1 seen.2 c.loop-i.invariant.seen;
      path = popped c.loop-i.path.items c.push.new.self.items c.push_seen.new.path.items c.pop.new.self.items i _ c.in_ok-push.ensures.items c.in_ok-push_seen.ensures.place (omega arith) c.pop.ensures.rest ∙ c.loop-i.invariant.path;
      left = passed_one es rows i e (omega arith) c.index-trees-i.is seen.2.0 c.loop-i.invariant.left;
    }

pub see_all-returns-clause-seen : goal.see_all-returns-clause-seen
see_all-returns-clause-seen t c = seen_all c.args.trees.now c.args.batch.now.rows c.loop-i.i c.loop-i.columns.items (omega arith) c.loop-i.invariant.seen
