use Rattle.std.proofs.Common.{◌∙◌, ap}
use Rattle.vx_fn.specs.Functions as functions
use Rattle.vx_array_eval.proofs.few.arithmetic.Goals as goal

pub computed_of-requires-clause-computes : goal.computed_of-requires-clause-computes
computed_of-requires-clause-computes c = c.requires.operator ∙ ap functions.binary c.in-Some.ensures
