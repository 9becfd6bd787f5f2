use Rattle.vx_prune_tree.proofs.Truth.{read_is_true}
use Rattle.vx_prune_tree.proofs.statistics_laws.read_is_true.Goals as goal

pub returns : goal.returns
returns c = read_is_true
