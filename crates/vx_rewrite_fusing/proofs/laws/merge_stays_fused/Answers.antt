use Rattle.vx_rewrite_fusing.proofs.Merges.{merge_stays_fused}
use Rattle.vx_rewrite_fusing.proofs.laws.merge_stays_fused.Goals as goal

pub returns : goal.returns
returns c = merge_stays_fused
