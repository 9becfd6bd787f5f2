use Rattle.vx_walk.proofs.Visits.{Visited-visits_each}
use Rattle.vx_walk.proofs.container.apply_ref_elements.Goals as goal

pub returns-clause-each : goal.returns-clause-each
returns-clause-each g c = λ k. Visited-visits_each _ k _ c.apply_ref_elements_with.ensures.applied
