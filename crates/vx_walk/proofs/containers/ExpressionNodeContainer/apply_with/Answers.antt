use Rattle.vx_walk.specs.Visits.{at}
use Rattle.vx_walk.proofs.containers.ExpressionNodeContainer.apply_with.Goals as goal

pub returns-clause-applied : goal.returns-clause-applied
returns-clause-applied g c = at c.visit.ensures.gives
