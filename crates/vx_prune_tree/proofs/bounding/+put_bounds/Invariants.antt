use Rattle.std.proofs.Common.{◌≡◌, ◌*◌, drop}
use Rattle.vx_tree.specs.Views.{bounds_of}
use Rattle.vx_prune_bounds.specs.Kernels.{case_bounds}
use Rattle.vx_prune_bounds.specs.Views.{bounds_view}
use Rattle.vx_prune_tree.specs.Bounding.{each_bounds_in}
use Rattle.vx_prune_tree.proofs.bounding.+put_bounds.Given as goal

-- the bounds so far are those of a CASE of the pairs that were gone through, and ELSE
abbrev pub invariant-put_case-loop-pair : goal.invariant-put_case-loop-pair
invariant-put_case-loop-pair l = bounds_view l.known ≡ case_bounds (each_bounds_in l.stats (bounds_of (drop (2 * l.pair) l.children)))
