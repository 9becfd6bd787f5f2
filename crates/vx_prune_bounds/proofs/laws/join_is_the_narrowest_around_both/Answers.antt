use Rattle.vx_prune_bounds.proofs.Lattice.{join-around-left, join-around-right, join-within}
use Rattle.vx_prune_bounds.proofs.laws.join_is_the_narrowest_around_both.Goals as goal

pub returns : goal.returns
returns c = (join-around-left, join-around-right, join-within)
