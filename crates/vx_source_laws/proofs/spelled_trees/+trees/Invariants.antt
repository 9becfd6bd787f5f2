use Rattle.std.proofs.Common.{◌+◌, ◌*◌, drop}
use Rattle.vx_tree.specs.Nodes.{size_of, sizes_of}
use Rattle.vx_tree.specs.Views.{tree_of, trees_of}
use Rattle.vx_source_laws.specs.SpelledTrees.{AreSpelledTrees}
use Rattle.vx_source_laws.proofs.spelled_trees.+trees.Given as goal

abbrev pub decreases-expression_is_spelled : goal.decreases-expression_is_spelled
decreases-expression_is_spelled l = 2 * size_of (tree_of l.expression.now)

abbrev pub decreases-expressions_are_spelled : goal.decreases-expressions_are_spelled
decreases-expressions_are_spelled l = 2 * sizes_of (trees_of l.expressions.now) + 1

-- what is left of the expressions is all that is left to show
abbrev pub invariant-expressions_are_spelled-loop-i : goal.invariant-expressions_are_spelled-loop-i
invariant-expressions_are_spelled-loop-i l = AreSpelledTrees (trees_of (drop l.i l.expressions)) → AreSpelledTrees (trees_of l.expressions)
