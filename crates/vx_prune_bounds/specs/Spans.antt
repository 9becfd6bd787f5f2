-- Between which numbers what is computed of two whole numbers lies, each of which lies between two.
use Rattle.std.specs.Prelude.{ℤ, pos, negsuc, nat_lt, min, max, ◌-◌, ◌^◌, Bool, ◌||◌, Option, Some, None, ◌+ℤ◌, ◌-ℤ◌, ◌*ℤ◌, neg_ℤ, int_div, int_le, int_lt, unsigned_abs, if◌then◌else◌, option_map}
use Rattle.std.specs.Option.{option_and_then}
use Rattle.std.specs.Int.{int_min, int_max}
use Rattle.vx_prune_bounds.specs.Bounds.{of_both}
use Rattle.vx_floats.specs.declared.arithmetic.Arithmetic.{Arithmetic}
use Rattle.vx_floats.specs.declared.arithmetic.Arithmetic.TheVariants.{Sum, Difference, Product, Quotient, Remainder}
pub use Rattle.vx_prune_bounds.specs.declared.spans.Side.{Side}
pub use Rattle.vx_prune_bounds.specs.declared.spans.Side.TheVariants.{Least, Greatest}
pub use Rattle.vx_prune_bounds.specs.declared.spans.Span.{Span}
pub use Rattle.vx_prune_bounds.specs.declared.spans.Interval.{Interval}

-- ---- the two sides

-- the side across
abbrev pub across : Side → Side
across Least = Greatest
across Greatest = Least

-- the one of two numbers that lies further on that side
abbrev pub outer : Side → ℤ → ℤ → ℤ
outer Least = int_min
outer Greatest = int_max

-- the greatest number of 128 bits that is at most this one, if there is one
abbrev pub nearest_below : ℤ → Option ℤ
nearest_below (pos n) = Some (pos (min n (2 ^ 127 - 1)))
nearest_below (negsuc n) = if nat_lt n (2 ^ 127) then Some (negsuc n) else None

-- the least number of 128 bits that is at least this one, if there is one
abbrev pub nearest_above : ℤ → Option ℤ
nearest_above (pos n) = if nat_lt n (2 ^ 127) then Some (pos n) else None
nearest_above (negsuc n) = Some (negsuc (min n (2 ^ 127 - 1)))

-- the nearest number of 128 bits that lies no less far on that side, if there is one
abbrev pub nearest : Side → ℤ → Option ℤ
nearest Least = nearest_below
nearest Greatest = nearest_above

-- ---- spans and intervals

-- the end of that side, where it is known
abbrev pub end_of : Side → Span → Option ℤ
end_of Least x = x.least
end_of Greatest x = x.greatest

-- the numbers from the first to the second, if there are any
abbrev pub from_to : ℤ → ℤ → Option Interval
from_to i j = if int_le i j then Some (record { from = i; to = j }) else None

-- all numbers of the span, where both ends are known
abbrev pub interval : Span → Option Interval
interval x = of_both from_to x.least x.greatest

-- whether zero isn't in the interval
abbrev pub is_nonzero : Interval → Bool
is_nonzero y = int_lt (pos 0) y.from || int_lt y.to (pos 0)

-- the interval, if zero isn't in it
abbrev pub if_nonzero : Interval → Option Interval
if_nonzero y = if is_nonzero y then Some y else None

-- ---- arithmetic

-- of what is computed of the ends of one interval and those of the other, what lies furthest on that side
abbrev pub corner : Side → (ℤ → ℤ → ℤ) → Interval → Interval → ℤ
corner s f x y = outer s (outer s (f x.from y.from) (f x.from y.to)) (outer s (f x.to y.from) (f x.to y.to))

-- how far from zero a remainder may lie: one less than the divisor that lies furthest from it
abbrev pub reach : Interval → ℤ
reach y = pos (max (unsigned_abs y.from) (unsigned_abs y.to) - 1)

-- as far on that side
abbrev pub towards : Side → ℤ → ℤ
towards Least m = neg_ℤ m
towards Greatest m = m

-- the end of a remainder: no further on that side than it may lie from zero, and no further than the dividend's end and zero
abbrev pub remainder_end : Side → Option ℤ → ℤ → ℤ
remainder_end s None m = towards s m
remainder_end s (Some i) m = outer (across s) (towards s m) (outer s i (pos 0))

-- the end of what is computed of two numbers, where it is known: a sum's and a difference's by one end of each; a product's and a quotient's by all four,
-- where the divisor isn't zero; a remainder's by the divisor's two, where it isn't zero, and by the dividend's on that side, if it is known
abbrev pub span_end : Arithmetic → Side → Span → Span → Option ℤ
span_end Sum s x y = of_both (λ i j. nearest s (i +ℤ j)) (end_of s x) (end_of s y)
span_end Difference s x y = of_both (λ i j. nearest s (i -ℤ j)) (end_of s x) (end_of (across s) y)
span_end Product s x y = of_both (λ p q. nearest s (corner s ◌*ℤ◌ p q)) (interval x) (interval y)
span_end Quotient s x y = of_both (λ p q. nearest s (corner s int_div p q)) (interval x) (option_and_then if_nonzero (interval y))
span_end Remainder s x y = option_map (λ q. remainder_end s (end_of s x) (reach q)) (option_and_then if_nonzero (interval y))
