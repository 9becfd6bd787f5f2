use Rattle.vx_dtype.specs.Timestamps.{zone_name}
use Rattle.vx_literals.proofs.InstantsAgain.{instant_again}
use Rattle.vx_literals.proofs.laws.instants_are_read_back.Goals as goal

pub returns : goal.returns
returns c = instant_again c.args.t.now.unit (zone_name c.args.t.now) c.args.instant
