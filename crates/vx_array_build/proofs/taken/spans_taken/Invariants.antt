use Rattle.std.proofs.Common.{◌≡◌, List, ℕ, get_or, map, take}
use Rattle.vx_array.specs.Kinds.{spans_in}
use Rattle.vx_array_build.proofs.taken.spans_taken.Given as goal

abbrev pub invariant-loop-i : goal.invariant-loop-i
invariant-loop-i l = (d : List ℕ) → l.taken ≡ map (λ i. get_or (spans_in l.spans) i d) (take l.i l.indices)
