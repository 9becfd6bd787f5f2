use Rattle.std.proofs.Common.{◌≡◌, ◌∷◌, [], refl, subst, IfOk}
use Rattle.vx_fn.specs.Functions.{zip}
use Rattle.vx_fn.specs.Values.{first_true}
use Rattle.vx_eval.specs.Columns.{rows_view, rows_views, row_at, each_row}
use Rattle.vx_eval.proofs.Filled.{evaluated}
use Rattle.vx_eval.proofs.choice.zip.Goals as goal

pub returns : goal.returns
returns c = λ ts.
    evaluated zip ts c.args.count (rows_view c.args.if_true ∷ rows_view c.args.if_false ∷ rows_view c.args.mask ∷ []) _ refl
    (subst (λ rs. IfOk c.first_true.result (λ out. rows_view out ≡ each_row c.args.count (λ k. first_true (row_at (rows_views rs) k)))) c.in_ok-vec.ensures.items c.first_true.ensures.rows)
    c.first_true.ensures.memory
