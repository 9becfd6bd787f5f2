use Rattle.vx_prune_tree.proofs.StatisticsNarrowing.{less_is_true}
use Rattle.vx_prune_tree.proofs.statistics_laws.less_is_true.Goals as goal

pub returns : goal.returns
returns c = less_is_true
