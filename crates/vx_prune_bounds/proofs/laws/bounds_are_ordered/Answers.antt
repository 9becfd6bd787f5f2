use Rattle.vx_prune_bounds.proofs.Contained.{within-refl, within-trans}
use Rattle.vx_prune_bounds.proofs.laws.bounds_are_ordered.Goals as goal

pub returns : goal.returns
returns c = (within-refl, within-trans)
