use Rattle.std.proofs.Common.{◌≡◌, arith, refl, ap, ◌∙◌, ◌∷◌, [], get_or}
use Rattle.vx_value.specs.Types.{null}
use Rattle.vx_value.specs.Views.{value_of}
use Rattle.vx_fn.specs.Functions.{like}
use Rattle.vx_fn.specs.Values.{liked}
use Rattle.vx_eval.specs.Columns.{truth_datum, rows_view, each_row}
use Rattle.vx_eval_masks.proofs.Writing.{row_pushed}
use Rattle.vx_eval.proofs.Filled.{given, repeated_still}
use Rattle.vx_eval.proofs.Likes.{liked_at}
use Rattle.vx_eval.proofs.text.like.Goals as goal

pub returns-in-Same : goal.returns-in-Same
returns-in-Same c = λ ts.
    repeated_still (like c.args.options.now.negated c.args.options.now.case_insensitive) ts c.args.count c.in-Same.field-1 (rows_view c.args.child.now) (rows_view c.args.pattern.now) (value_of c.in-Same.value.now) _
    (ap rows_view c.in-Same.is) c.requires.pattern (c.like_one.ensures ts)

pub loop-i-preserved : goal.loop-i-preserved
loop-i-preserved c =
    row_pushed truth_datum (λ k. liked c.args.options.now.negated c.args.options.now.case_insensitive (get_or (rows_view c.args.child.now) k null) (get_or (rows_view c.args.pattern.now) k null)) _ _ _ _
    c.loop-i.invariant c.in_ok-push.ensures.items (liked_at _ _ _ _ _ _ _ c.in_ok-liked.ensures c.row.ensures c.row-in-loop-i.ensures)

pub returns : goal.returns
returns c = λ ts.
    let end : c.loop-i.i ≡ c.args.count = omega arith in
    given (like c.args.options.now.negated c.args.options.now.case_insensitive) ts c.args.count (rows_view c.args.child.now ∷ rows_view c.args.pattern.now ∷ []) _ refl
    (c.loop-i.invariant ∙ ap (λ n. each_row n (λ k. liked c.args.options.now.negated c.args.options.now.case_insensitive (get_or (rows_view c.args.child.now) k null) (get_or (rows_view c.args.pattern.now) k null))) end)
