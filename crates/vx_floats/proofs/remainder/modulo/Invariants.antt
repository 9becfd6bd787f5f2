use Rattle.std.proofs.Common.{◌≡◌, ◌*◌, ◌%◌, ◌^◌, ◌<◌}
use Rattle.vx_floats.proofs.remainder.modulo.Given as goal

abbrev pub invariant-loop-left : goal.invariant-loop-left
invariant-loop-left l = (l.rest * 2 ^ l.left % l.divisor ≡ l.number * 2 ^ l.places % l.divisor) × (l.rest < l.divisor)

abbrev pub decreases-loop-left : goal.decreases-loop-left
decreases-loop-left l = l.left
