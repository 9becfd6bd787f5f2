use Rattle.vx_prune_bounds.proofs.Contained.{exactly-within, exactly-in}
use Rattle.vx_prune_bounds.proofs.laws.values_are_bounds.Goals as goal

pub returns : goal.returns
returns c = λ b v. (exactly-within b v, exactly-in b v)
