-- What a search of a value among those of a list may give.
use Rattle.std.specs.Prelude.{false}
use Rattle.vx_value.specs.Types.{Data, no_datum, datum}
use Rattle.vx_fn.specs.Functions.{equal}
use Rattle.vx_prune_bounds.specs.Bounds.{Bounds, exactly}
use Rattle.vx_prune_bounds.specs.Comparing.{comparison_truths}
use Rattle.vx_prune_bounds.specs.Truths.{Truths, truths, or_truths}

-- what the disjunction may be of what may be these, and of `=` between each element and a value within the bounds
abbrev pub or_equal_truths : Truths → Data → Bounds → Truths
or_equal_truths t no_datum x = t
or_equal_truths t (datum w ws) x = or_equal_truths (or_truths t (comparison_truths equal (exactly w) x)) ws x

-- what a search of a value within the bounds may give: the disjunction of `=` with each element, of no element false, and null of null
abbrev pub search_truths : Data → Bounds → Truths
search_truths ws x = or_equal_truths (truths x.null x.value false) ws x
