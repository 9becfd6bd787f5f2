-- What comparisons of values within bounds may give.
use Rattle.std.specs.Prelude.{Bool, true, false, ◌&&◌, ◌||◌, not, Option, Some}
use Rattle.vx_value.specs.Types.{Datum}
use Rattle.vx_fn.specs.Functions.{Operation, compares, and_also, or_else, computes, Comparison, equal, not_equal, greater, greater_or_equal, less, less_or_equal}
use Rattle.vx_fn.specs.Values.{bound_comparison}
use Rattle.vx_prune_bounds.specs.Order.{at_most, below}
use Rattle.vx_prune_bounds.specs.Bounds.{Bounds}
use Rattle.vx_prune_bounds.specs.Truths.{Truths, truths, and_truths}

-- whether both are known, and the test passes
abbrev pub both_known : (Datum → Datum → Bool) → Option Datum → Option Datum → Bool
both_known test (Some v) (Some w) = test v w
both_known test _ _ = false

-- whether each value within the first is at most each within the second
abbrev pub all_at_most : Bounds → Bounds → Bool
all_at_most x y = both_known at_most x.greatest y.least

-- whether each value within the first comes before each within the second
abbrev pub all_below : Bounds → Bounds → Bool
all_below x y = both_known below x.greatest y.least

-- whether the comparison is known to hold of each value within the first and each within the second
abbrev pub surely : Comparison → Bounds → Bounds → Bool
surely equal x y = all_at_most x y && all_at_most y x
surely not_equal x y = all_below x y || all_below y x
surely greater x y = all_below y x
surely greater_or_equal x y = all_at_most y x
surely less x y = all_below x y
surely less_or_equal x y = all_at_most x y

-- the comparison that holds where this one doesn't
abbrev pub opposite : Comparison → Comparison
opposite equal = not_equal
opposite not_equal = equal
opposite greater = less_or_equal
opposite greater_or_equal = less
opposite less = greater_or_equal
opposite less_or_equal = greater

-- what the comparison may give: null where one may be null, and each answer whose opposite isn't sure, where both may be another value
abbrev pub comparison_truths : Comparison → Bounds → Bounds → Truths
comparison_truths c x y =
    truths (x.null || y.null)
    ((x.value && y.value) && not (surely c x y))
    ((x.value && y.value) && not (surely (opposite c) x y))

-- what a comparison may give, and of another operation anything
abbrev pub operation_truths : Operation → Bounds → Bounds → Truths
operation_truths (compares c) x y = comparison_truths c x y
operation_truths and_also x y = truths true true true
operation_truths or_else x y = truths true true true
operation_truths (computes a) x y = truths true true true

-- what `Between` may give
abbrev pub between_truths : (lower_strict upper_strict : Bool) → Bounds → Bounds → Bounds → Truths
between_truths ls us x l u = and_truths (comparison_truths (bound_comparison ls) l x) (comparison_truths (bound_comparison us) x u)
