-- Arithmetic on two whole numbers.
use Rattle.std.specs.Prelude.{ℤ, pos, ◌+ℤ◌, ◌-ℤ◌, ◌*ℤ◌, int_div, int_rem, Bool, false, not, ◌||◌}
use Rattle.std.specs.Ordering.{int_eq}
use Rattle.vx_array_loops.specs.declared.computation.Computation.{Computation}
use Rattle.vx_array_loops.specs.declared.computation.Computation.TheVariants.{Sum, Difference, Product, Quotient, Remainder}

-- what is computed, where it doesn't divide by zero: the quotient is cut towards zero, and the remainder has the sign of the first
abbrev pub computed : Computation → ℤ → ℤ → ℤ
computed Sum i j = i +ℤ j
computed Difference i j = i -ℤ j
computed Product i j = i *ℤ j
computed Quotient i j = int_div i j
computed Remainder i j = int_rem i j

-- whether it divides by zero
abbrev pub divides_by_zero : Computation → ℤ → Bool
divides_by_zero Quotient j = int_eq j (pos 0)
divides_by_zero Remainder j = int_eq j (pos 0)
divides_by_zero _ j = false

-- whether it divides by zero, or the type that `fits` tells of doesn't hold the result
abbrev pub fails : (ℤ → Bool) → Computation → ℤ → ℤ → Bool
fails fits c i j = divides_by_zero c j || not (fits (computed c i j))
