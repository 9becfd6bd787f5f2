use Rattle.vx_rewrite_fusing.proofs.Merges.{merge_shortens}
use Rattle.vx_rewrite_fusing.proofs.laws.merge_shortens.Goals as goal

pub returns : goal.returns
returns c = merge_shortens
