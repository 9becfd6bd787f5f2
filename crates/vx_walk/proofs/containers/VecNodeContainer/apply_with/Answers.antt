use Rattle.vx_walk.specs.Visits.{within}
use Rattle.vx_walk.proofs.containers.VecNodeContainer.apply_with.Goals as goal

pub returns-clause-applied : goal.returns-clause-applied
returns-clause-applied g c = within (rw c.as_slice.ensures.value at c.apply_ref_elements_with.ensures.applied)
