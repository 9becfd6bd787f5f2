use Rattle.std.proofs.Common.{◌≡◌, drop}
use Rattle.vx_tree.specs.Views.{bound_of, bounds_of}
use Rattle.vx_eval.specs.Across.{looks_across, some_across}
use Rattle.vx_eval.proofs.across.+looks_across.Given as goal

-- neither the node nor a tree so far looks across rows
abbrev pub invariant-loop-child : goal.invariant-loop-child
invariant-loop-child l = looks_across (bound_of l.fn.b) ≡ some_across (bounds_of (drop l.child-index l.children))
