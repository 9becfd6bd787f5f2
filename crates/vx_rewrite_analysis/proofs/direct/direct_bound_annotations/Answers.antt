use Rattle.std.proofs.Common.{inl, inr, ◌∙◌}
use Rattle.std.proofs.lemmas.Result.{err_from_is_err_and}
use Rattle.vx_tree.specs.Views.{bound_of}
use Rattle.vx_rewrite_analysis.specs.Annotated.{answered_from}
use Rattle.vx_rewrite_analysis.specs.Annotations.{answered, IsAnnotationsOf}
use Rattle.vx_rewrite_analysis.specs.Keys.{key_of}
use Rattle.vx_rewrite_analysis.proofs.Subtrees.{nodes-of-none, entries-of-none}
use Rattle.vx_rewrite_analysis.proofs.Typing.{node-of}
use Rattle.vx_rewrite_analysis.proofs.direct.direct_bound_annotations.Goals as goal

pub annotate_into-requires : goal.annotate_into-requires
annotate_into-requires g c = λ x there. c.requires x (node-of (bound_of x.now) (bound_of c.args.e.now) there)

pub returns-in_err-annotate_into-clause-refusal : goal.returns-in_err-annotate_into-clause-refusal
returns-in_err-annotate_into-clause-refusal g c =
    let p = err_from_is_err_and c.from_residual.result c.from_residual.ensures.1 in
    rw (p.1, p.2) (elim c.in_err-annotate_into.ensures.refusal [
      | inl spent ↦ inl spent
      | inr asked ↦ inr (asked.0, node-of (bound_of asked.0.now) (bound_of c.args.e.now) asked.1, asked.2)
    ])

pub returns-clause-annotated : goal.returns-clause-annotated
returns-clause-annotated g c =
    λ answers alike.
    let none = c.new-annotations.result in
    let empty = c.new-annotations.ensures.empty in
    let all = c.in_ok-annotate_into.ensures.annotated answers alike (entries-of-none (λ n s. IsAnnotationsOf g.A.PartialEq.eq answers n s) none empty) in
    (λ k. all.0 k ∙ nodes-of-none (answered_from (bound_of c.args.e.now) (answered answers) (key_of k)) k none empty, all.1)
