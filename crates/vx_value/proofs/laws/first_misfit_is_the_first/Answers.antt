use Rattle.vx_value.proofs.Misfits.{misfit-is_first, no_misfit}
use Rattle.vx_value.proofs.laws.first_misfit_is_the_first.Goals as goal

pub returns : goal.returns
returns c = record { misfit = misfit-is_first; none = no_misfit }
