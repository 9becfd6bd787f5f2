use Rattle.vx_prune_tree.proofs.Narrowing.{more-narrows}
use Rattle.vx_prune_tree.proofs.laws.more_narrows.Goals as goal

pub returns : goal.returns
returns c = more-narrows
