use Rattle.vx_prune_bounds.proofs.Lattice.{meet-within-left, meet-within-right, within-meet}
use Rattle.vx_prune_bounds.proofs.laws.meet_is_the_widest_within_both.Goals as goal

pub returns : goal.returns
returns c = (meet-within-left, meet-within-right, within-meet)
