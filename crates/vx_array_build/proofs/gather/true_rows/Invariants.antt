use Rattle.std.proofs.Common.{◌≡◌, get_or, false}
use Rattle.std.specs.List.{filter, range_with_len}
use Rattle.vx_array_build.proofs.gather.true_rows.Given as goal

abbrev pub invariant-loop-i : goal.invariant-loop-i
invariant-loop-i l = l.found.items ≡ filter (λ k. get_or l.mask k false) (range_with_len 0 l.i)
