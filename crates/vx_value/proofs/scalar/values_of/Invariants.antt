use Rattle.std.proofs.Common.{◌≡◌, map}
use Rattle.vx_value.specs.Columns.{Constant}
use Rattle.vx_value.specs.Views.{value_of}
use Rattle.vx_value.proofs.scalar.values_of.Given as goal

abbrev pub invariant-loop-scalar : goal.invariant-loop-scalar
invariant-loop-scalar l = map value_of l.values.items ≡ map (λ (c : Constant). c.value) l.yielded
