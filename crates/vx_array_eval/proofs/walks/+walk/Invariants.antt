use Rattle.std.proofs.Common.{◌≡◌, drop}
use Rattle.vx_tree.specs.Views.{bounds_of}
use Rattle.vx_array_eval.specs.Walks.{some_walk}
use Rattle.vx_array_eval.proofs.walks.+walk.Given as goal

-- no node of the trees so far walks over rows
abbrev pub invariant-some_walk-loop-tree : goal.invariant-some_walk-loop-tree
invariant-some_walk-loop-tree l = some_walk (bounds_of l.trees) ≡ some_walk (bounds_of (drop l.tree-index l.trees))
