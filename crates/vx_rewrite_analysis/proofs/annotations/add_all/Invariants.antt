use Rattle.std.proofs.Common.{◌≡◌, ◌||◌}
use Rattle.std.specs.List.{list_any}
use Rattle.std.specs.HashSet.{contains}
use Rattle.vx_rewrite_analysis.proofs.annotations.add_all.Given as goal

-- the set and the annotations that are left have together those of both sets
abbrev pub invariant-loop-annotation : goal.invariant-loop-annotation
invariant-loop-annotation g l =
    (a : _) → (contains g.A.PartialEq.eq l.set a || list_any (g.A.PartialEq.eq a) l.annotation-iterator) ≡ (contains g.A.PartialEq.eq l.fn.set a || contains g.A.PartialEq.eq l.fn.others a)
