-- Comparisons of two things that have an order.
use Rattle.std.specs.Prelude.{Bool}
use Rattle.std.specs.Ordering.{is_eq, is_ne, is_lt, is_gt, is_le, is_ge}
use Rattle.std.specs.declared.cmp.Ordering.{Ordering}
use Rattle.vx_array_loops.specs.declared.comparison.Comparison.{Comparison}
use Rattle.vx_array_loops.specs.declared.comparison.Comparison.TheVariants.{Equal, NotEqual, Less, LessOrEqual, Greater, GreaterOrEqual}

-- whether the comparison holds of two that are in this order
abbrev pub holds : Comparison → Ordering → Bool
holds Equal o = is_eq o
holds NotEqual o = is_ne o
holds Less o = is_lt o
holds LessOrEqual o = is_le o
holds Greater o = is_gt o
holds GreaterOrEqual o = is_ge o
