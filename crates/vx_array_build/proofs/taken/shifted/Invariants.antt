use Rattle.std.proofs.Common.{◌≡◌, ◌+◌, map, take}
use Rattle.vx_array_build.proofs.taken.shifted.Given as goal

abbrev pub invariant-loop-i : goal.invariant-loop-i
invariant-loop-i l = l.shifted.items ≡ map (λ i. l.stretch.from + i) (take l.i l.indices)
