use Rattle.std.proofs.Common.{◌≡◌, take, map}
use Rattle.vx_value.specs.Views.{value_of}
use Rattle.vx_value.proofs.value.+copy.Given as goal

abbrev pub invariant-copy_all-loop-value : goal.invariant-copy_all-loop-value
invariant-copy_all-loop-value l = map value_of l.copies.items ≡ map value_of (take l.value-index l.value-items)
