use Rattle.std.proofs.Common.{◌≡◌, ◌*◌, ◌^◌, ◌<◌, ◌≤◌}
use Rattle.vx_floats.proofs.remainder.normal.Given as goal

abbrev pub invariant-loop-power : goal.invariant-loop-power
invariant-loop-power l = (l.digits * 2 ^ l.power ≡ l.significand * 2 ^ l.exponent) × (l.digits < 2 * l.hidden) × (l.power ≤ l.exponent)

abbrev pub decreases-loop-power : goal.decreases-loop-power
decreases-loop-power l = l.power
