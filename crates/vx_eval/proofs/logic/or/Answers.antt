use Rattle.std.proofs.Common.{rules, refl, ◌∷◌, [], get_or}
use Rattle.vx_value.specs.Types.{null}
use Rattle.vx_fn.specs.Functions.{binary, or_else}
use Rattle.vx_eval.specs.Columns.{rows_view}
use Rattle.vx_eval.proofs.Filled.{evaluated}
use Rattle.vx_eval.proofs.Kleene.{or_told}
use Rattle.vx_eval.proofs.logic.or.Goals as goal

pub returns : goal.returns
returns c = λ ts.
    evaluated (binary or_else) ts c.args.count (rows_view c.args.lhs.now ∷ rows_view c.args.rhs.now ∷ []) _ refl
    (c.told.ensures.rows _ (λ i t lt p. or_told (get_or (rows_view c.args.lhs.now) i null) (get_or (rows_view c.args.rhs.now) i null) t (search rules))) c.told.ensures.memory
