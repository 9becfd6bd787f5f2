use Rattle.vx_partition_laws.proofs.Rebound.{replaced_recombine}
use Rattle.vx_partition_laws.proofs.laws.replaced_recombine.Goals as goal

pub returns : goal.returns
returns c = replaced_recombine
