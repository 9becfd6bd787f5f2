use Rattle.std.proofs.Common.{◌≡◌, length, sym, ap, subst, inl, inr, ◌∙◌}
use Rattle.std.proofs.lemmas.Result.{err_from_is_err_and}
use Rattle.std.specs.Prelude.{Some, is_some}
use Rattle.vx_tree.specs.Views.{bound_of}
use Rattle.vx_rewrite_analysis.specs.Annotations.{answered, SameAnnotations}
use Rattle.vx_rewrite_analysis.specs.Answered.{own_given}
use Rattle.vx_rewrite_analysis.specs.Numbers.{IsNumbered, IsNumberOf}
use Rattle.vx_rewrite_analysis.specs.Reached.{is_reached}
use Rattle.vx_rewrite_analysis.proofs.Given.{given-some, given-each}
use Rattle.vx_rewrite_analysis.proofs.Typing.{node-numbered}
use Rattle.vx_rewrite_analysis.proofs.answered.AnsweredNodes.new.Goals as goal

pub own_answers-requires-clause-numbered : goal.own_answers-requires-clause-numbered
own_answers-requires-clause-numbered g c = subst IsNumbered (sym c.as_slice.ensures.keys) c.in_ok-root.ensures.numbered

pub own_answers-requires-clause-callable : goal.own_answers-requires-clause-callable
own_answers-requires-clause-callable g c =
    λ x there. c.requires x (node-numbered (bound_of c.args.e.now) (bound_of x.now) _ _ _ c.as_slice.ensures.keys c.new-nodes.ensures.empty (c.in_ok-root.ensures.nodes (bound_of x.now)) there)

pub returns-in_err-answers-clause-refusal : goal.returns-in_err-answers-clause-refusal
returns-in_err-answers-clause-refusal g c =
    let p = err_from_is_err_and c.from_residual-in_err-answers.result c.from_residual-in_err-answers.ensures.1 in
    rw (p.1, p.2) (elim c.in_err-answers.ensures.refusal [
      | inl spent ↦ inl spent
      | inr asked ↦
          let at = bound_of asked.0.now in
          inr (asked.0, node-numbered (bound_of c.args.e.now) at _ _ _ c.as_slice.ensures.keys c.new-nodes.ensures.empty (c.in_ok-root.ensures.nodes at) asked.1, asked.2)
    ])

pub returns-clause-numbered : goal.returns-clause-numbered
returns-clause-numbered g c = (c.in_ok-root.ensures.numbered, c.in_ok-answers.ensures.count ∙ ap length c.as_slice.ensures.keys, c.in_ok-root.ensures.number.0)

pub returns-clause-root : goal.returns-clause-root
returns-clause-root g c = c.in_ok-root.ensures.number.1

pub returns-clause-nodes : goal.returns-clause-nodes
returns-clause-nodes g c =
    λ answers alike b.
    let ns = c.as_slice.result.now in
    let own = c.in_ok-answers.answers.items in
    let root = c.in_ok-root.root in
    let is : IsNumberOf ns root (bound_of c.args.e.now) = subst (λ x. IsNumberOf x root (bound_of c.args.e.now)) (sym c.as_slice.ensures.keys) c.in_ok-root.ensures.number in
    subst (λ x. is_some (own_given b x own) ≡ is_reached (answered answers) b (bound_of c.args.e.now)) c.as_slice.ensures.keys
    (given-some b ns own ∙ (c.in_ok-answers.ensures.answers answers alike).1 b ∙ ap (is_reached (answered answers) b) is.1)

pub returns-clause-answers : goal.returns-clause-answers
returns-clause-answers g c =
    λ answers alike b own given.
    let eq = g.A.PartialEq.eq in
    let ns = c.as_slice.result.now in
    let all = c.in_ok-answers.answers.items in
    let here = subst (λ x. own_given b x all ≡ Some own) (sym c.as_slice.ensures.keys) given in
    let found = given-each (λ t v. SameAnnotations eq v.items (answers t)) ns all (c.in_ok-answers.ensures.answers answers alike).0 b own here in
    subst (λ l. SameAnnotations eq l (answers b)) found.1 found.2
