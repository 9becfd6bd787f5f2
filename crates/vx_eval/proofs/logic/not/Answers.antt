use Rattle.std.proofs.Common.{rules, refl, ◌∷◌, [], get_or}
use Rattle.vx_value.specs.Types.{null}
use Rattle.vx_fn.specs.Functions.{logical_not}
use Rattle.vx_eval.specs.Columns.{rows_view}
use Rattle.vx_eval.proofs.Filled.{evaluated}
use Rattle.vx_eval.proofs.Kleene.{not_told}
use Rattle.vx_eval.proofs.logic.not.Goals as goal

pub returns : goal.returns
returns c = λ ts. evaluated logical_not ts c.args.count (rows_view c.args.input.now ∷ []) _ refl (c.told.ensures.rows _ (λ i t lt p. not_told (get_or (rows_view c.args.input.now) i null) t (search rules))) c.told.ensures.memory
