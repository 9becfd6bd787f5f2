use Rattle.std.proofs.Common.{ℕ, arith}
use Rattle.std.proofs.lemmas.List.{length-take}
use Rattle.vx_literals.proofs.DigitsRead.{scaled}
use Rattle.vx_literals.proofs.decimals.units_of.Goals as goal

pub overflow_mul-result : goal.overflow_mul-result
overflow_mul-result c = let small = scaled _ _ _ _ c.in_ok-number.ensures.small c.power_of_ten.ensures.value (omega (arith, length-take {A = ℕ}, c.if-whole-scale.false, c.min-count.ensures, c.from-scale.ensures)) in omega arith

pub returns-clause-small : goal.returns-clause-small
returns-clause-small c = scaled _ _ _ _ c.in_ok-number.ensures.small c.power_of_ten.ensures.value (omega (arith, length-take {A = ℕ}, c.if-whole-scale.false, c.min-count.ensures, c.from-scale.ensures))
