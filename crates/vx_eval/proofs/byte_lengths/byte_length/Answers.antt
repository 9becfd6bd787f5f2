use Rattle.std.proofs.Common.{rules, refl, ◌∷◌, []}
use Rattle.vx_fn.specs.Functions.{byte_length}
use Rattle.vx_eval.specs.Columns.{rows_view}
use Rattle.vx_eval.proofs.Filled.{evaluated}
use Rattle.vx_eval.proofs.byte_lengths.byte_length.Goals as goal

pub returns : goal.returns
returns c = λ ts. evaluated byte_length ts c.args.count (rows_view c.args.input.now ∷ []) _ refl (c.tabulated.ensures.rows _ (λ i v lt p. search rules)) c.tabulated.ensures.memory
