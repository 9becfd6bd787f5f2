use Rattle.vx_run.proofs.Fusing.{fused_is_kleene_merged}
use Rattle.vx_run.proofs.laws.fused_is_kleene_merged.Goals as goal

pub returns : goal.returns
returns c = fused_is_kleene_merged
