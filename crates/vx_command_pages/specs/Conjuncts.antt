-- Which operators join conjuncts.
use Rattle.std.specs.Prelude.{Bool, true, false}
use Rattle.vx_fn.specs.declared.options.Operator.{Operator}
use Rattle.vx_fn.specs.declared.options.Operator.TheVariants.{Eq, NotEq, Gt, Gte, Lt, Lte, And, Or, Add, Sub, Mul, Div, Rem}

-- whether what the operator makes is true where both of its operands are, and nowhere else
abbrev pub joins_conjuncts : Operator → Bool
joins_conjuncts And = true
joins_conjuncts Or = false
joins_conjuncts Eq = false
joins_conjuncts NotEq = false
joins_conjuncts Gt = false
joins_conjuncts Gte = false
joins_conjuncts Lt = false
joins_conjuncts Lte = false
joins_conjuncts Add = false
joins_conjuncts Sub = false
joins_conjuncts Mul = false
joins_conjuncts Div = false
joins_conjuncts Rem = false
