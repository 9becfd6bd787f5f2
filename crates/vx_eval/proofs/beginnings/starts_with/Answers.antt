use Rattle.std.proofs.Common.{rules, refl, ◌∷◌, []}
use Rattle.vx_fn.specs.Functions.{starts_with}
use Rattle.vx_eval.specs.Columns.{rows_view}
use Rattle.vx_eval.proofs.Filled.{evaluated}
use Rattle.vx_eval.proofs.beginnings.starts_with.Goals as goal

pub returns : goal.returns
returns c = λ ts.
    evaluated starts_with ts c.args.count (rows_view c.args.input.now ∷ rows_view c.args.prefix.now ∷ []) _ refl (c.told.ensures.rows _ (λ i t lt p. search rules)) c.told.ensures.memory
