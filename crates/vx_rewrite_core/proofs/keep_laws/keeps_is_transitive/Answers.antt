use Rattle.vx_rewrite_core.proofs.Keeping.{keeps_trans}
use Rattle.vx_rewrite_core.proofs.keep_laws.keeps_is_transitive.Goals as goal

pub returns : goal.returns
returns c = keeps_trans
