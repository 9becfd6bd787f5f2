use Rattle.std.proofs.Common.{◌∙◌, arith}
use Rattle.vx_floats.proofs.Remainders.{doubled}
use Rattle.vx_floats.proofs.remainder.normal.Goals as goal

pub loop-power-preserved : goal.loop-power-preserved
loop-power-preserved c = (doubled c.loop-power.digits c.loop-power.power (omega arith) ∙ c.loop-power.invariant.0, omega arith, omega arith)
