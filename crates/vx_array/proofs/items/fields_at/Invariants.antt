use Rattle.std.proofs.Common.{◌≡◌, [], get_or, map, take}
use Rattle.vx_array.specs.Rows.{lanes_each}
use Rattle.vx_array.proofs.items.fields_at.Given as goal

abbrev pub invariant-loop-i : goal.invariant-loop-i
invariant-loop-i l = lanes_each l.some.items ≡ map (λ k. get_or (lanes_each l.fields) k []) (take l.i l.places)
