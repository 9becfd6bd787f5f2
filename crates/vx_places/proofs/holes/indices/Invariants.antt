use Rattle.std.proofs.Common.{◌≡◌}
use Rattle.vx_places.specs.Holes.{names_from}
use Rattle.vx_places.proofs.holes.indices.Given as goal

abbrev pub invariant-loop-i : goal.invariant-loop-i
invariant-loop-i l = l.names.items ≡ names_from 0 l.i
