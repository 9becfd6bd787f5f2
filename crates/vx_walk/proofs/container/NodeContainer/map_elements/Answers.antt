use Rattle.vx_walk.proofs.Places.{places_stay}
use Rattle.vx_walk.proofs.container.NodeContainer.map_elements.Goals as goal

pub returns-clause-places : goal.returns-clause-places
returns-clause-places g c = places_stay g.Self.NodeContainer.mirror _ g.Self.NodeContainer.shape c.map_with.result c.map_with.ensures.mapped
