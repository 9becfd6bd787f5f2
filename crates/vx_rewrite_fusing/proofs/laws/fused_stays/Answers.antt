use Rattle.vx_rewrite_fusing.proofs.Merges.{fused_stays}
use Rattle.vx_rewrite_fusing.proofs.laws.fused_stays.Goals as goal

pub returns : goal.returns
returns c = fused_stays
