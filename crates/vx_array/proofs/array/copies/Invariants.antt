use Rattle.std.proofs.Common.{◌≡◌, map, take}
use Rattle.vx_value.specs.Views.{value_of}
use Rattle.vx_array.proofs.array.copies.Given as goal

abbrev pub invariant-loop-value : goal.invariant-loop-value
invariant-loop-value l = map value_of l.copies.items ≡ map value_of (take l.value-index l.values)
