use Rattle.vx_tree.proofs.Nullness.{answer_tells}
use Rattle.vx_tree.proofs.bound.BoundExpression.validity.Goals as goal

pub returns-clause-tells : goal.returns-clause-tells
returns-clause-tells c = answer_tells c.validity_of.result _ c.requires c.validity_of.ensures
