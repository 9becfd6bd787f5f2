use Rattle.vx_projection.proofs.Keeping.{kept_rows-fit}
use Rattle.vx_projection.proofs.laws.kept_rows_fit.Goals as goal

pub returns : goal.returns
returns c = kept_rows-fit
