use Rattle.std.proofs.Common.{◌≡◌, drop}
use Rattle.vx_tree.specs.Nodes.{bound_children_of}
use Rattle.vx_tree.specs.Views.{bound_of, bounds_of}
use Rattle.vx_eval.specs.Leaves.{are_leaves}
use Rattle.vx_eval.proofs.blocks.reads_leaves_alone.Given as goal

-- each tree so far is a leaf
abbrev pub invariant-loop-child : goal.invariant-loop-child
invariant-loop-child l = are_leaves (bound_children_of (bound_of l.b)) ≡ are_leaves (bounds_of (drop l.child-index l.children))
