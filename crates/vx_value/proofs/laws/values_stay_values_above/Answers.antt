use Rattle.vx_value.proofs.Above.{fits-above}
use Rattle.vx_value.proofs.laws.values_stay_values_above.Goals as goal

pub returns : goal.returns
returns c = λ v t u p e. fits-above v p e
