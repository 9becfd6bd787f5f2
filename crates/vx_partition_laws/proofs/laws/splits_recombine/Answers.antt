use Rattle.vx_partition_laws.proofs.Recombined.{splits_recombine}
use Rattle.vx_partition_laws.proofs.laws.splits_recombine.Goals as goal

pub returns : goal.returns
returns g c = splits_recombine g.A.PartialEq.eq g.met.A.Eq.laws
