use Rattle.std.proofs.Common.{rules, ◌≡◌, ◌<◌, Err}
use Rattle.vx_dtype.specs.declared.error.VortexError.TheVariants.{OutOfMemory}
use Rattle.vx_walk.proofs.Folding.{FoldFront-start, FoldFront-next, FoldFront-end_early, FoldFront-fail, FoldFront-spent, FoldFront-at, FoldFront-end, Folded-refused, Folded-skipped, Folded-stopped, Folded-lost, Folded-cut, Folded-handed_up}
use Rattle.vx_walk.proofs.Rows.{child_is_lower}
use Rattle.vx_walk.proofs.fold.+fold.Goals as goal

pub returns-in_err-below-clause-folded : goal.returns-in_err-below-clause-folded
returns-in_err-below-clause-folded g t c =
    let e : c.from_residual.result ≡ Err c.in_err-below.field-0.0 = search rules in
    rw e (Folded-refused _ _ _ _ c.args.node.now c.in_err-below.ensures.gives)

pub returns-in-Skip-clause-folded : goal.returns-in-Skip-clause-folded
returns-in-Skip-clause-folded g t c = Folded-skipped _ _ _ _ c.args.node.now (rw c.in-Skip.is at c.in_ok-below.ensures.gives)

pub returns-in-Stop-clause-folded : goal.returns-in-Stop-clause-folded
returns-in-Stop-clause-folded g t c = Folded-stopped _ _ _ _ c.args.node.now (rw c.in-Stop.is at c.in_ok-below.ensures.gives)

pub returns-in_err-results-clause-folded : goal.returns-in_err-results-clause-folded
returns-in_err-results-clause-folded g t c =
    let e : c.from_residual-in_err-results.result ≡ Err OutOfMemory = search rules in
    rw e (Folded-lost _ _ _ _ c.args.node.now (rw c.in-Continue.is at c.in_ok-below.ensures.gives)
    (FoldFront-spent _ _ _ _ (FoldFront-start _ _ _ _ _ _ _)))

pub loop-child-init : goal.loop-child-init
loop-child-init g t c = record { ready = search rules; front = rw c.in_ok-results.ensures.items (FoldFront-start _ _ _ _ _ _ _) }

pub fold-requires : goal.fold-requires
fold-requires g t c κs within =
    let low : g.N.Node.height (g.N.Node.mirror c.child-item.result) < g.N.Node.height (g.N.Node.mirror c.args.node.now) =
    child_is_lower g.N.Node.mirror g.N.Node.kids g.N.Node.height g.met.N.Node.kids_are_lower _ _ _ _ c.loop-child-test.true c.child-item.is c.children_slice-child-items.ensures in
    search rules

pub returns-in_err-r-clause-folded : goal.returns-in_err-r-clause-folded
returns-in_err-r-clause-folded g t c =
    let e : c.from_residual-in_err-r.result ≡ Err c.in_err-r.field-0.0 = search rules in
    let f = FoldFront-at _ _ _ _ _ _ _ c.loop-child-test.true c.child-item.is c.loop-child.invariant.front in
    rw e (Folded-lost _ _ _ _ c.args.node.now (rw c.in-Continue.is at c.in_ok-below.ensures.gives)
    (rw c.children_slice-child-items.ensures at (FoldFront-fail _ _ _ _ f c.in_err-r.ensures.folded)))

pub returns-in_err-push-in-Continue-2-clause-folded :
    goal.returns-in_err-push-in-Continue-2-clause-folded
returns-in_err-push-in-Continue-2-clause-folded g t c =
    let e : c.from_residual-in_err-push-in-Continue-2.result ≡ Err OutOfMemory = search rules in
    let f = FoldFront-at _ _ _ _ _ _ _ c.loop-child-test.true c.child-item.is c.loop-child.invariant.front in
    let s = FoldFront-next _ _ _ _ f (rw c.in-Continue-2.is at c.in_ok-r.ensures.folded) in
    rw e (Folded-lost _ _ _ _ c.args.node.now (rw c.in-Continue.is at c.in_ok-below.ensures.gives)
    (rw c.children_slice-child-items.ensures at (FoldFront-spent _ _ _ _ s)))

pub returns-in-Stop-2-clause-folded : goal.returns-in-Stop-2-clause-folded
returns-in-Stop-2-clause-folded g t c =
    let f = FoldFront-at _ _ _ _ _ _ _ c.loop-child-test.true c.child-item.is c.loop-child.invariant.front in
    Folded-cut _ _ _ _ c.args.node.now (rw c.in-Continue.is at c.in_ok-below.ensures.gives)
    (rw c.children_slice-child-items.ensures at (FoldFront-end_early _ _ _ _ f (rw c.in-Stop-2.is at c.in_ok-r.ensures.folded)))

pub loop-child-preserved : goal.loop-child-preserved
loop-child-preserved g t c =
    let f = FoldFront-at _ _ _ _ _ _ _ c.loop-child-test.true c.child-item.is c.loop-child.invariant.front in
    record {
      ready = search rules;
      front = rw c.in_ok-push-in-Continue-2.ensures.items (FoldFront-next _ _ _ _ f (rw c.in-Continue-2.is at c.in_ok-r.ensures.folded));
    }

pub returns-clause-folded : goal.returns-clause-folded
returns-clause-folded g t c =
    Folded-handed_up _ _ _ _ c.args.node.now (rw c.in-Continue.is at c.in_ok-below.ensures.gives)
    (rw c.children_slice-child-items.ensures at (FoldFront-end _ _ _ _ _ _ c.loop-child-test.false c.loop-child.invariant.front))
    c.visit_up.ensures.handed
