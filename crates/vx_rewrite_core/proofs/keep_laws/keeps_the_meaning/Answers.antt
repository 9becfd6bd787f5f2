use Rattle.vx_rewrite_core.proofs.Keeping.{keeps_meaning}
use Rattle.vx_rewrite_core.proofs.keep_laws.keeps_the_meaning.Goals as goal

pub returns : goal.returns
returns c = keeps_meaning
