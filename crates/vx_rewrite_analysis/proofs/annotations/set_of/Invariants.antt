use Rattle.std.proofs.Common.{◌≡◌, ◌||◌}
use Rattle.std.specs.List.{list_any}
use Rattle.std.specs.HashSet.{contains}
use Rattle.vx_rewrite_analysis.proofs.annotations.set_of.Given as goal

-- the set and the annotations that are left have together all of them
abbrev pub invariant-loop-annotation : goal.invariant-loop-annotation
invariant-loop-annotation g l =
    (a : _) → (contains g.A.PartialEq.eq l.set a || list_any (g.A.PartialEq.eq a) l.annotation-iterator.rest.items) ≡ list_any (g.A.PartialEq.eq a) l.fn.annotations.items
