use Rattle.vx_prune_tree.proofs.StatisticsNarrowing.{bounds_narrow}
use Rattle.vx_prune_tree.proofs.statistics_laws.bounds_narrow.Goals as goal

pub returns : goal.returns
returns c = bounds_narrow
