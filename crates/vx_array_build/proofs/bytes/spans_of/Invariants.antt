use Rattle.std.proofs.Common.{◌≡◌, map, take}
use Rattle.vx_value.specs.Types.{bytes}
use Rattle.vx_array_build.proofs.bytes.spans_of.Given as goal

abbrev pub invariant-loop-i : goal.invariant-loop-i
invariant-loop-i l = map bytes l.spans ≡ map (λ b. bytes b.now) (take l.i l.rows)
