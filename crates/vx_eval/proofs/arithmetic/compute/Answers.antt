use Rattle.std.proofs.Common.{◌∷◌, [], Err, arith, rules, below_more, ◌≡◌, ◌∙◌, ap, get_or, sym, subst}
use Rattle.vx_value.specs.Types.{null}
use Rattle.vx_value.specs.Views.{type_of, value_of}
use Rattle.vx_fn.specs.Functions.{binary, computes}
use Rattle.vx_fn.specs.Values.{computed}
use Rattle.vx_eval.specs.Columns.{rows_view, each_row, Evaluates}
use Rattle.vx_eval_masks.proofs.Writing.{row_pushed}
use Rattle.vx_eval.proofs.Filled.{refused, given}
use Rattle.vx_eval.proofs.FirstRows.{arithmetic_faults, arithmetic_quiet, computed_at, quiet_at}
use Rattle.vx_eval.proofs.arithmetic.compute.Goals as goal

pub returns-in_err-result : goal.returns-in_err-result
returns-in_err-result c = λ ts.
    let all = type_of c.args.dtype.now ∷ ts in
    let columns = rows_view c.args.lhs.now ∷ rows_view c.args.rhs.now ∷ [] in
    let e = c.in_err-result.field-0.0 in
    let is : c.from_residual-in_err-result.result ≡ Err e = search rules in
    subst (Evaluates (binary (computes c.args.arithmetic)) all c.args.count columns) (sym is)
    (refused (binary (computes c.args.arithmetic)) all c.args.count columns e
    (arithmetic_faults c.args.arithmetic _ ts c.args.count c.loop-i.i _ _ _ _ e (omega arith) c.loop-i.invariant.inside c.row.ensures c.row-in-loop-i.ensures c.in_err-result.ensures.1 c.in_err-result.ensures.0))

pub loop-i-preserved : goal.loop-i-preserved
loop-i-preserved c = record {
  so_far = row_pushed value_of _ _ _ _ _ c.loop-i.invariant.so_far c.in_ok-push.ensures.items (computed_at _ _ _ _ _ _ c.in_ok-result.ensures.0 c.row.ensures c.row-in-loop-i.ensures);
  inside = below_more _ _ c.loop-i.invariant.inside (quiet_at _ _ _ _ _ _ c.in_ok-result.ensures.1 c.row.ensures c.row-in-loop-i.ensures);
}

pub returns : goal.returns
returns c = λ ts.
    let end : c.loop-i.i ≡ c.args.count = omega arith in
    given (binary (computes c.args.arithmetic)) (type_of c.args.dtype.now ∷ ts) c.args.count (rows_view c.args.lhs.now ∷ rows_view c.args.rhs.now ∷ []) _
    (arithmetic_quiet c.args.arithmetic _ ts c.args.count _ _ (λ k h. c.loop-i.invariant.inside k (omega arith)))
    (c.loop-i.invariant.so_far ∙ ap (λ n. each_row n (λ k. computed c.args.arithmetic (get_or (rows_view c.args.lhs.now) k null) (get_or (rows_view c.args.rhs.now) k null))) end)
