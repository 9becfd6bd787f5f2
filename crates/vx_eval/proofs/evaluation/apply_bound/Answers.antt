use Rattle.std.proofs.Common.{◌∙◌, refl}
use Rattle.vx_eval.proofs.Fitting.{made_fits}
use Rattle.vx_eval.proofs.Meanings.{column_made}
use Rattle.vx_eval.proofs.evaluation.apply_bound.Goals as goal

pub from_shared-requires : goal.from_shared-requires
from_shared-requires c = made_fits _ _ _ _ (c.in_ok-dtype.ensures.cases ∙ c.dtype-2.ensures) refl c.in_ok-rows.ensures.fit

pub returns-clause-meaning : goal.returns-clause-meaning
returns-clause-meaning c = λ over.
    column_made _ _ _ _ _ c.requires over c.in_ok-rows.ensures.answer (c.in_ok-dtype.ensures.cases ∙ c.dtype-2.ensures) c.from_shared.ensures
