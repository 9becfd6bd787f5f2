use Rattle.std.proofs.Common.{Bor, ◌≡◌, ◌<◌, ◌||◌, true, false, length, arith, rules, sym, ap, inl, inr, ◌∙◌}
use Rattle.std.specs.Prelude.{is_some, IsTrue, ◌&&◌}
use Rattle.std.proofs.lemmas.Result.{err_from_is_err_and}
use Rattle.vx_tree.specs.Nodes.{size_of}
use Rattle.vx_tree.specs.Trees.{unbound}
use Rattle.vx_tree.specs.Views.{bound_of}
use Rattle.vx_tree.specs.declared.bound.BoundExpression.{BoundExpression}
use Rattle.vx_rewrite_analysis.specs.Annotations.{answered, IsAnnotationsOf}
use Rattle.vx_rewrite_analysis.specs.Keys.{key_of, entry_at}
use Rattle.vx_rewrite_analysis.specs.Reached.{is_reached_in, nowhere, occurs}
use Rattle.vx_rewrite_analysis.proofs.Annotating.{some_item, no_item, items-alike, answered-set}
use Rattle.vx_rewrite_analysis.proofs.Answering.{stopped-next, stopped-end, stopped-here, stopped-below}
use Rattle.vx_rewrite_analysis.proofs.Refusing.{refused-here, refused-below, unrefused-here, unrefused-below, refusal-next}
use Rattle.vx_rewrite_analysis.proofs.Subtrees.{bounds-next, bounds-end, child-smaller, entries-with, occurs-child, reached-itself}
use Rattle.vx_rewrite_analysis.proofs.direct.+annotate_into.Goals as goal

pub annotate-requires : goal.annotate-requires
annotate-requires g t c = c.requires c.args.e (reached-itself nowhere (bound_of c.args.e.now))

pub returns-in_err-answers-clause-refusal : goal.returns-in_err-answers-clause-refusal
returns-in_err-answers-clause-refusal g t c =
    let p = err_from_is_err_and c.from_residual.result c.from_residual.ensures.1 in
    rw (p.1, p.2) (inr (c.args.e, reached-itself nowhere (bound_of c.args.e.now), c.in_err-answers.ensures))

pub returns-in_err-annotate_into-clause-refusal : goal.returns-in_err-annotate_into-clause-refusal
returns-in_err-annotate_into-clause-refusal g t c =
    let p = err_from_is_err_and c.from_residual-in_err-annotate_into.result c.from_residual-in_err-annotate_into.ensures.1 in
    let kept = occurs-child (bound_of c.args.e.now) c.children-child-items.result.now c.loop-child.child-index c.child-item.result c.children-child-items.ensures.trees (omega arith) c.child-item.is in
    rw (p.1, p.2) (elim c.in_err-annotate_into.ensures.refusal [
      | inl spent ↦ inl spent
      | inr asked ↦ inr (asked.0, kept (bound_of asked.0.now) asked.1, asked.2)
    ])

pub returns-then-not-is_empty-clause-annotated : goal.returns-then-not-is_empty-clause-annotated
returns-then-not-is_empty-clause-annotated g t c =
    λ answers alike was.
    let eq = g.A.PartialEq.eq in
    let b = bound_of c.args.e.now in
    let own = c.in_ok-answers.answers.items in
    let same = alike _ _ c.in_ok-answers.ensures in
    let some : 0 < length own = search rules in
    let here : answered answers b ≡ true = sym (items-alike eq g.met.A.Eq.laws own (answers b) same) ∙ some_item own some in
    let set = answered-set eq answers b own c.in_ok-set.set same here c.in_ok-set.ensures in (
      λ k. stopped-here (answered answers) b c.in_ok-set.set c.args.annotations.now c.put.new.map k here (c.in_ok-put.ensures k),
      entries-with (λ n s. IsAnnotationsOf eq answers n s) b c.in_ok-set.set c.args.annotations.now c.put.new.map set c.in_ok-put.ensures was,
    )

pub annotate_into-requires : goal.annotate_into-requires
annotate_into-requires g t c =
    let fewer : size_of (unbound (bound_of c.child-item.result)) < size_of (unbound (bound_of c.args.e.now)) =
    child-smaller _ c.children-child-items.result.now c.loop-child.child-index _ c.children-child-items.ensures.trees (omega arith) c.child-item.is in
    let kept = occurs-child (bound_of c.args.e.now) c.children-child-items.result.now c.loop-child.child-index c.child-item.result c.children-child-items.ensures.trees (omega arith) c.child-item.is in
    let callable : (x : Bor BoundExpression) → IsTrue (occurs (bound_of x.now) (bound_of c.child-item.result)) → goal.F-pre g c.args.annotate.now x = λ x there. c.requires x (kept (bound_of x.now) there) in
    search rules

pub loop-child-preserved : goal.loop-child-preserved
loop-child-preserved g t c =
    let next = bounds-next c.children-child-items.result.now c.loop-child.child-index c.child-item.result (omega arith) c.child-item.is in (
      λ answers alike was.
          let before = c.loop-child.invariant.0 answers alike was in
          let one = c.in_ok-annotate_into.ensures.annotated answers alike before.0 in (
            one.1,
            λ k. stopped-next (answered answers) (key_of k) _ _ _ _ _ _ _ next (one.0 k) (before.1 k),
          ),
      λ said says. refusal-next said _ _ _ _ next (c.in_ok-annotate_into.ensures.unrefused said says) (c.loop-child.invariant.1 said says),
    )

pub returns-clause-annotated : goal.returns-clause-annotated
returns-clause-annotated g t c =
    λ answers alike was.
    let eq = g.A.PartialEq.eq in
    let b = bound_of c.args.e.now in
    let own = c.in_ok-answers.answers.items in
    let same = alike _ _ c.in_ok-answers.ensures in
    let none : length own ≡ 0 = search rules in
    let here : answered answers b ≡ false = sym (items-alike eq g.met.A.Eq.laws own (answers b) same) ∙ no_item own none in
    let all = c.loop-child.invariant.0 answers alike was in (
      λ k. stopped-below (answered answers) b (key_of k) _ _ here
          (stopped-end (answered answers) (key_of k) _ _ _ _ (bounds-end c.children-child-items.result.now c.loop-child.child-index (omega arith)) (all.1 k)
          ∙ ap (λ bs. (is_reached_in (answered answers) (key_of k) bs && answered answers (key_of k)) || is_some (entry_at (key_of k) c.args.annotations.now)) c.children-child-items.ensures.trees),
      all.0,
    )

-- ---- the first refusal

pub returns-in_err-answers-clause-first : goal.returns-in_err-answers-clause-first
returns-in_err-answers-clause-first g t c =
    let p = err_from_is_err_and c.from_residual.result c.from_residual.ensures.1 in
    rw (p.1, p.2) (λ said says. refused-here said (bound_of c.args.e.now) _ (says c.args.e _ c.in_err-answers.ensures))

pub returns-then-not-is_empty-clause-unrefused : goal.returns-then-not-is_empty-clause-unrefused
returns-then-not-is_empty-clause-unrefused g t c =
    λ said says.
    let own = c.in_ok-answers.answers.items in
    let some : 0 < length own = search rules in
    unrefused-here said g.A.PartialEq.eq g.met.A.Eq.laws (bound_of c.args.e.now) own (says c.args.e _ c.in_ok-answers.ensures) some

pub returns-in_err-annotate_into-clause-first : goal.returns-in_err-annotate_into-clause-first
returns-in_err-annotate_into-clause-first g t c =
    let p = err_from_is_err_and c.from_residual-in_err-annotate_into.result c.from_residual-in_err-annotate_into.ensures.1 in
    rw (p.1, p.2) (λ said says.
    let own = c.in_ok-answers.answers.items in
    let none : length own ≡ 0 = search rules in
    let next = bounds-next c.children-child-items.result.now c.loop-child.child-index c.child-item.result (omega arith) c.child-item.is in
    refused-below said g.A.PartialEq.eq g.met.A.Eq.laws (bound_of c.args.e.now) own _ _ _ _ _
    (says c.args.e _ c.in_ok-answers.ensures) none c.children-child-items.ensures.trees next
    (c.loop-child.invariant.1 said says) (c.in_err-annotate_into.ensures.first said says))

pub returns-clause-unrefused : goal.returns-clause-unrefused
returns-clause-unrefused g t c =
    λ said says.
    let own = c.in_ok-answers.answers.items in
    let none : length own ≡ 0 = search rules in
    unrefused-below said g.A.PartialEq.eq g.met.A.Eq.laws (bound_of c.args.e.now) own _ _
    (says c.args.e _ c.in_ok-answers.ensures) none c.children-child-items.ensures.trees
    (bounds-end c.children-child-items.result.now c.loop-child.child-index (omega arith)) (c.loop-child.invariant.1 said says)
