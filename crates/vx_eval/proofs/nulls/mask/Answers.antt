use Rattle.std.proofs.Common.{◌≡◌, ◌∷◌, [], refl, subst, IfOk}
use Rattle.vx_fn.specs.Functions.{mask}
use Rattle.vx_fn.specs.Values.{first_true}
use Rattle.vx_eval.specs.Columns.{rows_view, rows_views, row_at, each_row}
use Rattle.vx_eval.proofs.Filled.{evaluated}
use Rattle.vx_eval.proofs.nulls.mask.Goals as goal

pub returns : goal.returns
returns c = λ ts.
    evaluated mask ts c.args.count (rows_view c.args.input ∷ rows_view c.args.mask ∷ []) _ refl
    (subst (λ rs. IfOk c.first_true.result (λ out. rows_view out ≡ each_row c.args.count (λ k. first_true (row_at (rows_views rs) k)))) c.in_ok-vec.ensures.items c.first_true.ensures.rows)
    c.first_true.ensures.memory
