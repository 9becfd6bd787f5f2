use Rattle.std.proofs.Common.{sym, ap, subst, inl, inr, ◌∙◌}
use Rattle.std.proofs.lemmas.Result.{err_from_is_err_and}
use Rattle.vx_tree.specs.Views.{bound_of}
use Rattle.vx_rewrite_analysis.specs.Annotations.{answered}
use Rattle.vx_rewrite_analysis.specs.Keys.{key_of}
use Rattle.vx_rewrite_analysis.specs.Numbers.{tree_at, IsNumbered, IsNumberOf}
use Rattle.vx_rewrite_analysis.specs.Reached.{is_reached}
use Rattle.vx_rewrite_analysis.proofs.Typing.{node-numbered}
use Rattle.vx_rewrite_analysis.proofs.annotations.descendent_bound_annotations.Goals as goal

pub own_answers-requires-clause-numbered : goal.own_answers-requires-clause-numbered
own_answers-requires-clause-numbered g c = subst IsNumbered (sym c.as_slice-nodes.ensures.keys) c.in_ok-root.ensures.numbered

pub own_answers-requires-clause-callable : goal.own_answers-requires-clause-callable
own_answers-requires-clause-callable g c =
    λ x there. c.requires x (node-numbered (bound_of c.args.e.now) (bound_of x.now) _ _ _ c.as_slice-nodes.ensures.keys c.new-nodes.ensures.empty (c.in_ok-root.ensures.nodes (bound_of x.now)) there)

pub sets_of-requires-clause-numbered : goal.sets_of-requires-clause-numbered
sets_of-requires-clause-numbered g c = subst IsNumbered (sym c.as_slice-nodes.ensures.keys) c.in_ok-root.ensures.numbered

pub sets_by_key-requires-clause-numbered : goal.sets_by_key-requires-clause-numbered
sets_by_key-requires-clause-numbered g c = subst IsNumbered (sym c.as_slice-nodes.ensures.keys) c.in_ok-root.ensures.numbered

pub returns-in_err-own-clause-refusal : goal.returns-in_err-own-clause-refusal
returns-in_err-own-clause-refusal g c =
    let p = err_from_is_err_and c.from_residual-in_err-own.result c.from_residual-in_err-own.ensures.1 in
    rw (p.1, p.2) (elim c.in_err-own.ensures.refusal [
      | inl spent ↦ inl spent
      | inr asked ↦
          let at = bound_of asked.0.now in
          inr (asked.0, node-numbered (bound_of c.args.e.now) at _ _ _ c.as_slice-nodes.ensures.keys c.new-nodes.ensures.empty (c.in_ok-root.ensures.nodes at) asked.1, asked.2)
    ])

pub returns-clause-annotated : goal.returns-clause-annotated
returns-clause-annotated g c =
    λ answers alike.
    let ns = c.as_slice-nodes.result.now in
    let root = c.in_ok-root.root in
    let is : IsNumberOf ns root (bound_of c.args.e.now) = subst (λ x. IsNumberOf x root (bound_of c.args.e.now)) (sym c.as_slice-nodes.ensures.keys) c.in_ok-root.ensures.number in
    let own = c.in_ok-own.ensures.answers answers alike in
    let sets = c.in_ok-sets.ensures.annotations answers (tree_at ns root) own.0 own.1 in (
      λ k. c.in_ok-sets_by_key.ensures.nodes k ∙ sets.1 (key_of k) ∙ ap (is_reached (answered answers) (key_of k)) is.1,
      c.in_ok-sets_by_key.ensures.annotations answers sets.0,
    )
