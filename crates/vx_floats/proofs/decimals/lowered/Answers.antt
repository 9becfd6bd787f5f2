use Rattle.vx_floats.proofs.Units.{lowered_far, lowered_near}
use Rattle.vx_floats.proofs.decimals.lowered.Goals as goal

pub returns-then-places-gt128-clause-value : goal.returns-then-places-gt128-clause-value
returns-then-places-gt128-clause-value c = lowered_far c.args.number c.args.places c.requires c.if-places-gt128.true

pub returns-else-places-gt128-clause-value : goal.returns-else-places-gt128-clause-value
returns-else-places-gt128-clause-value c = lowered_near c.args.number c.args.places c.if-places-eq0.false
