use Rattle.vx_source_over.proofs.Retyped.{other_values_stay}
use Rattle.vx_source_over.proofs.laws.other_values_stay.Goals as goal

pub returns : goal.returns
returns c = other_values_stay
