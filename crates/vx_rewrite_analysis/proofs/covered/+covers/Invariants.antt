use Rattle.std.proofs.Common.{◌≡◌, drop}
use Rattle.vx_tree.specs.Views.{bounds_of}
use Rattle.vx_rewrite_analysis.specs.Covers.{has_single, are_covered}
use Rattle.vx_rewrite_analysis.proofs.covered.+covers.Given as goal

-- the trees so far are covered
abbrev pub invariant-are_covered-loop-b : goal.invariant-are_covered-loop-b
invariant-are_covered-loop-b g l = are_covered (has_single l.fn.annotations) (bounds_of l.fn.bs) ≡ are_covered (has_single l.fn.annotations) (bounds_of (drop l.b-index l.bs))
