use Rattle.vx_prune_tree.proofs.Narrowing.{more-is_as_sure}
use Rattle.vx_prune_tree.proofs.laws.more_is_as_sure.Goals as goal

pub returns : goal.returns
returns c = more-is_as_sure
