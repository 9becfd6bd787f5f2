use Rattle.vx_rewrite.proofs.Passing.{passed_keeps}
use Rattle.vx_rewrite.proofs.laws.passes_keep.Goals as goal

pub returns : goal.returns
returns c = passed_keeps
