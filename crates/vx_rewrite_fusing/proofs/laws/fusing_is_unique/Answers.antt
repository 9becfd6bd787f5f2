use Rattle.vx_rewrite_fusing.proofs.Unique.{fusing_is_unique}
use Rattle.vx_rewrite_fusing.proofs.laws.fusing_is_unique.Goals as goal

pub returns : goal.returns
returns c = fusing_is_unique
