use Rattle.std.proofs.Common.{◌≡◌, ◌<◌, ◌++◌, length, reverse, rules, refl, sym, ap, inr, ◌∙◌}
use Rattle.std.specs.Prelude.{if◌then◌else◌, []}
use Rattle.std.proofs.lemmas.Result.{err_from_is_err_and}
use Rattle.vx_rewrite_analysis.proofs.Annotating.{some_item, no_item}
use Rattle.vx_rewrite_analysis.proofs.reached.answers_at.Goals as goal

pub returns-in_err-answers-clause-refusal : goal.returns-in_err-answers-clause-refusal
returns-in_err-answers-clause-refusal g c =
    let p = err_from_is_err_and c.from_residual.result c.from_residual.ensures.1 in
    rw (p.1, p.2) (inr (c.args.node.now.tree, refl, c.in_err-answers.ensures))

pub returns-then-not-is_empty-clause-answers : goal.returns-then-not-is_empty-clause-answers
returns-then-not-is_empty-clause-answers g c =
    (c.args.node.now.tree, refl, c.in_ok-answers.ensures)

pub returns-then-not-is_empty-clause-waiting : goal.returns-then-not-is_empty-clause-waiting
returns-then-not-is_empty-clause-waiting g c =
    let some : 0 < length c.in_ok-answers.answers.items = search rules in
    ap (λ s. (if s then [] else c.args.node.now.children.items) ++ reverse c.args.waiting.now.items) (sym (some_item c.in_ok-answers.answers.items some))

pub returns-clause-answers : goal.returns-clause-answers
returns-clause-answers g c =
    (c.args.node.now.tree, refl, c.in_ok-answers.ensures)

pub returns-clause-waiting : goal.returns-clause-waiting
returns-clause-waiting g c =
    let none : length c.in_ok-answers.answers.items ≡ 0 = search rules in
    c.in_ok-put_next.ensures ∙ ap (λ ks. ks ++ reverse c.args.waiting.now.items) c.as_slice.ensures
    ∙ ap (λ s. (if s then [] else c.args.node.now.children.items) ++ reverse c.args.waiting.now.items) (sym (no_item c.in_ok-answers.answers.items none))
