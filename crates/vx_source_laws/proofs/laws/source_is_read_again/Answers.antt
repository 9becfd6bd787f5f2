use Rattle.vx_source_laws.proofs.Again.{again}
use Rattle.vx_source_laws.proofs.laws.source_is_read_again.Goals as goal

pub returns : goal.returns
returns c = again
