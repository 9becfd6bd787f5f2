use Rattle.vx_walk.specs.Visits.{within}
use Rattle.vx_walk.proofs.containers.RcNodeContainer.apply_with.Goals as goal

pub returns-clause-applied : goal.returns-clause-applied
returns-clause-applied g c = within (rw c.deref.ensures at c.apply_with.ensures.applied)
