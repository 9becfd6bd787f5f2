use Rattle.vx_value.proofs.TakenRows.{others_stay}
use Rattle.vx_value.proofs.taking.VecValueTakeRow.take.Goals as goal

pub returns-clause-others : goal.returns-clause-others
returns-clause-others c = λ k apart. others_stay _ _ k _ apart
