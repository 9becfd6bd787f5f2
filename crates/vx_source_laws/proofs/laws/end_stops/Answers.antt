use Rattle.vx_source_laws.proofs.Ends.{end_stops}
use Rattle.vx_source_laws.proofs.laws.end_stops.Goals as goal

pub returns : goal.returns
returns c = end_stops
