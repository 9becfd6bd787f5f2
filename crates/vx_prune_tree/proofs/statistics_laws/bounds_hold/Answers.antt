use Rattle.vx_prune_tree.proofs.StatisticsBounding.{bounds_hold}
use Rattle.vx_prune_tree.proofs.statistics_laws.bounds_hold.Goals as goal

pub returns : goal.returns
returns c = bounds_hold
