use Rattle.vx_tree.proofs.Checks.{answer_decides}
use Rattle.vx_tree.proofs.bound.BoundExpression.is_well_typed.Goals as goal

pub returns : goal.returns
returns c = answer_decides c.is_well_typed.result _ c.is_well_typed.ensures
