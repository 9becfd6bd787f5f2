use Rattle.std.proofs.Common.{◌≡◌, ◌||◌, drop, get_or}
use Rattle.std.specs.Prelude.{None}
use Rattle.std.specs.HashSet.{contains}
use Rattle.std.specs.List.{list_any}
use Rattle.vx_rewrite_analysis.specs.ByNumber.{has_annotation}
use Rattle.vx_rewrite_analysis.proofs.annotations.set_at.Given as goal

-- the set and those of the children that are left have together the annotations of all
abbrev pub invariant-loop-child : goal.invariant-loop-child
invariant-loop-child g l =
    (a : _) → (contains g.A.PartialEq.eq l.set a || list_any (λ k. has_annotation g.A.PartialEq.eq a (get_or l.sets k None)) (drop l.child-index l.child-items))
    ≡ list_any (λ k. has_annotation g.A.PartialEq.eq a (get_or l.sets k None)) l.child-items
