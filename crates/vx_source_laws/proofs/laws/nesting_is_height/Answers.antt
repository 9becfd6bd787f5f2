use Rattle.vx_source_laws.proofs.Heights.{height_below, height_above}
use Rattle.vx_source_laws.proofs.laws.nesting_is_height.Goals as goal

pub returns : goal.returns
returns c = λ e. (height_below e, height_above e)
