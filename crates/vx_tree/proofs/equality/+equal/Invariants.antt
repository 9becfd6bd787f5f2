use Rattle.std.proofs.Common.{◌≡◌, drop}
use Rattle.vx_tree.specs.Equality.{equal_trees}
use Rattle.vx_tree.specs.Views.{trees_of}
use Rattle.vx_tree.proofs.equality.+equal.Given as goal

-- the trees so far are equal
abbrev pub invariant-equal_all-loop-i : goal.invariant-equal_all-loop-i
invariant-equal_all-loop-i l = equal_trees (trees_of l.ds) (trees_of l.es) ≡ equal_trees (trees_of (drop l.i l.ds)) (trees_of (drop l.i l.es))
