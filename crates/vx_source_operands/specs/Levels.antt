-- How tightly operators bind.
use Rattle.std.specs.Prelude.{ℕ}
use Rattle.vx_source_operands.specs.declared.frame.Level.{Level}
use Rattle.vx_source_operands.specs.declared.frame.Level.TheVariants.{Or, And, Not, Comparison, Sum, Product, Minus}

-- the loosest first
abbrev pub rank_of : Level → ℕ
rank_of Or = 1
rank_of And = 2
rank_of Not = 3
rank_of Comparison = 4
rank_of Sum = 5
rank_of Product = 6
rank_of Minus = 7
