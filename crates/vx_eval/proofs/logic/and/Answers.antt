use Rattle.std.proofs.Common.{rules, refl, sym, ap, ◌∙◌, ◌∷◌, [], length, get_or}
use Rattle.vx_value.specs.Types.{null}
use Rattle.vx_fn.specs.Functions.{binary, and_also}
use Rattle.vx_fn.specs.Values.{kleene_and}
use Rattle.vx_eval.specs.Columns.{rows_view, each_row}
use Rattle.vx_eval.proofs.Filled.{evaluated, given}
use Rattle.vx_eval.proofs.Kleene.{and_told}
use Rattle.vx_eval.proofs.logic.and.Goals as goal

pub returns-in_ok-and-in-Compared-Compared : goal.returns-in_ok-and-in-Compared-Compared
returns-in_ok-and-in-Compared-Compared c = λ ts.
    let n = c.args.count in
    let l = rows_view c.args.lhs in
    let r = rows_view c.args.rhs in
    let first = c.in-Compared-Compared.first in
    let second = c.in-Compared-Compared.second in
    let joined =
    c.in_ok-and-in-Compared-Compared.ensures
    ∙ ap (λ x. each_row (length x) (λ k. kleene_and (get_or x k null) (get_or second k null))) (sym (ap rows_view c.in-Compared-Compared.is-0))
    ∙ ap (λ y. each_row (length l) (λ k. kleene_and (get_or l k null) (get_or y k null))) (sym (ap rows_view c.in-Compared-Compared.is-1))
    ∙ ap (λ m. each_row m (λ k. kleene_and (get_or l k null) (get_or r k null))) c.requires.left in
    given (binary and_also) ts n (l ∷ r ∷ []) _ refl joined

pub returns-in_default : goal.returns-in_default
returns-in_default c = λ ts.
    evaluated (binary and_also) ts c.args.count (rows_view c.args.lhs ∷ rows_view c.args.rhs ∷ []) _ refl
    (c.told-truths.ensures.rows _ (λ i t lt p. and_told (get_or (rows_view c.args.lhs) i null) (get_or (rows_view c.args.rhs) i null) t (search rules))) c.told-truths.ensures.memory
