use Rattle.std.proofs.Common.{◌≡◌, drop}
use Rattle.vx_value.specs.Views.{type_of}
use Rattle.vx_tree.specs.Nodes.{is_over, are_over}
use Rattle.vx_tree.specs.Views.{bound_of, bounds_of}
use Rattle.vx_tree.proofs.bind.+is_over.Given as goal

-- the scope roots of the trees so far have the type
abbrev pub invariant-loop-child : goal.invariant-loop-child
invariant-loop-child l = is_over (bound_of l.fn.b) (type_of l.dtype) ≡ are_over (bounds_of (drop l.child-index l.child-items)) (type_of l.dtype)
