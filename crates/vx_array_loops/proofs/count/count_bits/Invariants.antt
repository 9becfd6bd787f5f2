use Rattle.std.proofs.Common.{◌≡◌, ◌*◌}
use Rattle.vx_array_loops.specs.WordBits.{count_true, first_bits}
use Rattle.vx_array_loops.proofs.count.count_bits.Given as goal

abbrev pub invariant-loop-j : goal.invariant-loop-j
invariant-loop-j l = l.ones ≡ count_true (first_bits (64 * l.j) l.words)
