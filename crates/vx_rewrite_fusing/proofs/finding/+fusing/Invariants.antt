use Rattle.std.proofs.Common.{◌≡◌, ◌+◌, ◌*◌, ◌++◌, List, take}
use Rattle.vx_tree.specs.Nodes.{size_of, sizes_of}
use Rattle.vx_tree.specs.Trees.{unbound, unbound_each}
use Rattle.vx_tree.specs.Views.{bound_of, bounds_of}
use Rattle.vx_tree.specs.declared.bound.BoundExpression.{BoundExpression}
use Rattle.vx_rewrite_fusing.specs.Conjuncts.{EachFused}
use Rattle.vx_rewrite_fusing.specs.Finding.{EachFusedOf}
use Rattle.vx_rewrite_fusing.proofs.finding.+fusing.Given as goal

-- none of the children so far changes
abbrev pub invariant-fused_node-loop-i : goal.invariant-fused_node-loop-i
invariant-fused_node-loop-i l = EachFused (bounds_of (take l.i l.children))

-- the rest so far stands behind the list, fused
abbrev pub invariant-fused_rest-loop-child : goal.invariant-fused_rest-loop-child
invariant-fused_rest-loop-child l =
    (us : List BoundExpression) × (l.list.items ≡ l.fn.list.items ++ us) × EachFusedOf (bounds_of (take l.child-index l.rest)) (bounds_of us)

abbrev pub decreases-fused : goal.decreases-fused
decreases-fused l = 8 * size_of (unbound (bound_of l.b.now)) + 4

abbrev pub decreases-fused_wide : goal.decreases-fused_wide
decreases-fused_wide l = 8 * size_of (unbound (bound_of l.b.now)) + 3

abbrev pub decreases-conjuncts_fused : goal.decreases-conjuncts_fused
decreases-conjuncts_fused l = 8 * size_of (unbound (bound_of l.b.now)) + 2

abbrev pub decreases-fused_node : goal.decreases-fused_node
decreases-fused_node l = 8 * size_of (unbound (bound_of l.b.now)) + 1

abbrev pub decreases-fused_from : goal.decreases-fused_from
decreases-fused_from l = 8 * size_of (unbound (bound_of l.b.now))

abbrev pub decreases-fused_rest : goal.decreases-fused_rest
decreases-fused_rest l = 8 * sizes_of (unbound_each (bounds_of l.rest.now)) + 5
