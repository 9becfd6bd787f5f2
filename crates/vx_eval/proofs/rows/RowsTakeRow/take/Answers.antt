use Rattle.vx_value.proofs.TakenRows.{others_stay}
use Rattle.vx_eval.proofs.rows.RowsTakeRow.take.Goals as goal

pub returns-in-Owned-clause-others : goal.returns-in-Owned-clause-others
returns-in-Owned-clause-others c = λ k apart. rw c.in-Owned.is (others_stay _ _ k _ apart)
