use Rattle.vx_prune_bounds.proofs.Contained.{contains-wider}
use Rattle.vx_prune_bounds.proofs.laws.wider_bounds_contain_more.Goals as goal

pub returns : goal.returns
returns c = contains-wider
