use Rattle.vx_walk.specs.Containers.{at}
use Rattle.vx_walk.proofs.containers.ExpressionNodeContainer.map_with.Goals as goal

pub returns-clause-mapped : goal.returns-clause-mapped
returns-clause-mapped g c = at _ c.map.ensures.gives
