use Rattle.vx_rewrite_core.proofs.Keeping.{keeps_refl}
use Rattle.vx_rewrite_core.proofs.keep_laws.keeps_is_reflexive.Goals as goal

pub returns : goal.returns
returns c = keeps_refl
