use Rattle.std.proofs.Common.{◌≡◌, ◌+◌, ◌*◌, ◌++◌, List, take, drop, map}
use Rattle.vx_tree.specs.Trees.{BoundTree}
use Rattle.vx_tree.specs.Views.{bound_of, bounds_of}
use Rattle.vx_rewrite_core.specs.Weights.{weight, weights}
use Rattle.vx_rewrite_core.proofs.RewrittenChildren.{Left, LeftOfNormal}
use Rattle.vx_rewrite_core.proofs.whole.+optimizer.Given as goal

abbrev pub invariant-optimize_children-loop-i : goal.invariant-optimize_children-loop-i
invariant-optimize_children-loop-i g l = LeftOfNormal (g.R.Rule.gives l.rules) (map bound_of (take l.i l.children)) (bounds_of (drop l.i l.children)) (bounds_of l.children)

abbrev pub invariant-optimize_rest-loop-child : goal.invariant-optimize_rest-loop-child
invariant-optimize_rest-loop-child g l = record {
  so_far : List BoundTree;
  behind : map bound_of l.forms.items ≡ map bound_of l.fn.forms.items ++ so_far;
  left : Left (g.R.Rule.gives l.rules) so_far (bounds_of (drop l.child-index l.rest)) (bounds_of l.rest);
}

abbrev pub decreases-normal_form : goal.decreases-normal_form
decreases-normal_form g l = 5 * weight (bound_of l.tree.now) + 3

abbrev pub decreases-optimize_current : goal.decreases-optimize_current
decreases-optimize_current g l = 5 * weight (bound_of l.current.value) + 2

abbrev pub decreases-optimize_below : goal.decreases-optimize_below
decreases-optimize_below g l = 5 * weight (bound_of l.tree.now) + 1

abbrev pub decreases-optimize_children : goal.decreases-optimize_children
decreases-optimize_children g l = 5 * weights (bounds_of l.children.now) + 5

abbrev pub decreases-optimize_rest : goal.decreases-optimize_rest
decreases-optimize_rest g l = 5 * weights (bounds_of l.rest.now) + 4
