use Rattle.std.proofs.Common.{◌≡◌, drop}
use Rattle.vx_tree.specs.Views.{bound_of, bounds_of}
use Rattle.vx_eval.specs.Searches.{searches, some_search}
use Rattle.vx_eval.proofs.searches.+searches.Given as goal

-- neither the node nor a tree so far searches in a long list
abbrev pub invariant-loop-child : goal.invariant-loop-child
invariant-loop-child l = searches (bound_of l.fn.b) ≡ some_search (bounds_of (drop l.child-index l.children))
