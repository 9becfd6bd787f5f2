use Rattle.std.proofs.Common.{rules}
use Rattle.vx_eval.proofs.nulls.null_tests.Goals as goal

pub returns-in-Item-clause-rows : goal.returns-in-Item-clause-rows
returns-in-Item-clause-rows c = c.told.ensures.rows _ (λ i t lt p. search rules)

pub returns-in_default-clause-rows : goal.returns-in_default-clause-rows
returns-in_default-clause-rows c = c.told-in_default.ensures.rows _ (λ i t lt p. search rules)
