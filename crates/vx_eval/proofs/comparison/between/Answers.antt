use Rattle.std.proofs.Common.{rules, refl, ◌∷◌, []}
use Rattle.vx_fn.specs.Functions.{between}
use Rattle.vx_fn.specs.Views.{is_strict}
use Rattle.vx_eval.specs.Columns.{rows_view}
use Rattle.vx_eval.proofs.Filled.{evaluated}
use Rattle.vx_eval.proofs.comparison.between.Goals as goal

pub returns : goal.returns
returns c = λ ts.
    evaluated (between (is_strict c.args.options.now.lower_strict) (is_strict c.args.options.now.upper_strict)) ts c.args.count (rows_view c.args.array.now ∷ rows_view c.args.bounds.0.now ∷ rows_view c.args.bounds.1.now ∷ []) _ refl
    (c.told.ensures.rows _ (λ i t lt p. search rules)) c.told.ensures.memory
