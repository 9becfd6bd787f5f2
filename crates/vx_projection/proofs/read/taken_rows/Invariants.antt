use Rattle.std.proofs.Common.{◌≡◌, map, take}
use Rattle.vx_value.specs.Views.{value_of}
use Rattle.vx_projection.specs.Wanted.{taken, wanted_of}
use Rattle.vx_projection.proofs.read.taken_rows.Given as goal

abbrev pub invariant-loop-i : goal.invariant-loop-i
invariant-loop-i l = map value_of l.made.items ≡ map (taken (wanted_of l.wanted)) (map value_of (take l.i l.rows))
