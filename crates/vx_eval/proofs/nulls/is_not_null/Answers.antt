use Rattle.std.proofs.Common.{refl, ◌∷◌, []}
use Rattle.vx_fn.specs.Functions.{is_not_null}
use Rattle.vx_eval.specs.Columns.{rows_view}
use Rattle.vx_eval.proofs.Filled.{evaluated}
use Rattle.vx_eval.proofs.nulls.is_not_null.Goals as goal

pub returns : goal.returns
returns c = λ ts. evaluated is_not_null ts c.args.count (rows_view c.args.input.now ∷ []) _ refl c.null_tests.ensures.rows c.null_tests.ensures.memory
