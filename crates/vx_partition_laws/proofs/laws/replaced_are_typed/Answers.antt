use Rattle.vx_partition_laws.proofs.Rebound.{replaced_typed}
use Rattle.vx_partition_laws.proofs.laws.replaced_are_typed.Goals as goal

pub returns : goal.returns
returns c = replaced_typed
