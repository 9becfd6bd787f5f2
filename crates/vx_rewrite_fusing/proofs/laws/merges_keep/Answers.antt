use Rattle.vx_rewrite_fusing.proofs.Merges.{merges_alike}
use Rattle.vx_rewrite_fusing.proofs.laws.merges_keep.Goals as goal

pub returns : goal.returns
returns c = merges_alike
