use Rattle.vx_projection.proofs.Agreeing.{kept_rows-agree}
use Rattle.vx_projection.proofs.laws.kept_rows_agree.Goals as goal

pub returns : goal.returns
returns c = kept_rows-agree
