use Rattle.vx_rewrite_fusing.proofs.Merges.{merges_end}
use Rattle.vx_rewrite_fusing.proofs.laws.merges_end.Goals as goal

pub returns : goal.returns
returns c = merges_end
