use Rattle.vx_rewrite_core.proofs.Keeping.{keeps_again}
use Rattle.vx_rewrite_core.proofs.keep_laws.keeps_under_nodes.Goals as goal

pub returns : goal.returns
returns c = keeps_again
