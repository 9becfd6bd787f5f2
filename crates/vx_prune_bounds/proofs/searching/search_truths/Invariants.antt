use Rattle.std.proofs.Common.{◌≡◌, drop}
use Rattle.vx_value.specs.Views.{data_view}
use Rattle.vx_prune_bounds.specs.Searching.{or_equal_truths, search_truths}
use Rattle.vx_prune_bounds.specs.Views.{bounds_view}
use Rattle.vx_prune_bounds.proofs.searching.search_truths.Given as goal

-- what was found and the elements that are left tell what all tell
abbrev pub invariant-loop-element : goal.invariant-loop-element
invariant-loop-element l =
    or_equal_truths l.found (data_view (drop l.element-index l.elements)) (bounds_view l.x) ≡ search_truths (data_view l.elements) (bounds_view l.x)
