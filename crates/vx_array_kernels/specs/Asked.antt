-- Which comparison of values a comparison of numbers tells, and which arithmetic that on numbers is.
use Rattle.std.specs.Prelude.{List, map}
use Rattle.vx_array_loops.specs.declared.comparison.Comparison.{Comparison as Asked}
use Rattle.vx_array_loops.specs.declared.comparison.Comparison.TheVariants.{Equal, NotEqual, Less, LessOrEqual, Greater, GreaterOrEqual}
use Rattle.vx_array_loops.specs.declared.computation.Computation.{Computation}
use Rattle.vx_array_loops.specs.declared.computation.Computation.TheVariants as computations
use Rattle.vx_floats.specs.declared.arithmetic.Arithmetic.{Arithmetic}
use Rattle.vx_floats.specs.declared.arithmetic.Arithmetic.TheVariants.{Sum, Difference, Product, Quotient, Remainder}
use Rattle.vx_value.specs.Types.{Datum}
use Rattle.vx_fn.specs.Functions.{Comparison, equal, not_equal, greater, greater_or_equal, less, less_or_equal}
use Rattle.vx_fn.specs.Values.{compared}

-- the comparison of values
abbrev pub asked : Asked → Comparison
asked Equal = equal
asked NotEqual = not_equal
asked Less = less
asked LessOrEqual = less_or_equal
asked Greater = greater
asked GreaterOrEqual = greater_or_equal

-- the comparison of each row with one value
abbrev pub compared_rows : Asked → Datum → List Datum → List Datum
compared_rows c d rows = map (λ v. compared (asked c) v d) rows

-- the arithmetic on values
abbrev pub arithmetic_of : Computation → Arithmetic
arithmetic_of computations.Sum = Sum
arithmetic_of computations.Difference = Difference
arithmetic_of computations.Product = Product
arithmetic_of computations.Quotient = Quotient
arithmetic_of computations.Remainder = Remainder
