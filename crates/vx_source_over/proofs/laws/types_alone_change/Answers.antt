use Rattle.vx_source_over.proofs.Retyped.{types_alone_change}
use Rattle.vx_source_over.proofs.laws.types_alone_change.Goals as goal

pub returns : goal.returns
returns c = types_alone_change
