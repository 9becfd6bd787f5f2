use Rattle.std.proofs.Common.{◌+◌, ◌*◌, ◌<◌, ◌≤◌, arith, rules}
use Rattle.vx_tree.specs.Nodes.{size_of, sizes_of}
use Rattle.vx_tree.specs.Views.{tree_of, trees_of}
use Rattle.vx_tree.proofs.Seen.{item_smaller}
use Rattle.vx_source_laws.proofs.SpelledNext.{trees_spelled_next, trees_spelled_end}
use Rattle.vx_source_laws.proofs.spelled_trees.+trees.Goals as goal

pub expressions_are_spelled-loop-i-preserved : goal.expressions_are_spelled-loop-i-preserved
expressions_are_spelled-loop-i-preserved t c = λ rest.
    c.loop-i.invariant (trees_spelled_next c.args.expressions.now c.loop-i.i c.index-expressions-i.result (omega arith) c.index-expressions-i.is c.expression_is_spelled.ensures rest)

pub expressions_are_spelled-returns : goal.expressions_are_spelled-returns
expressions_are_spelled-returns t c = c.loop-i.invariant (trees_spelled_end c.args.expressions.now c.loop-i.i (omega arith))

pub expressions_are_spelled-expression_is_spelled-requires : goal.expressions_are_spelled-expression_is_spelled-requires
expressions_are_spelled-expression_is_spelled-requires t c =
    let below : size_of (tree_of c.index-expressions-i.result) ≤ sizes_of (trees_of c.args.expressions.now) =
    item_smaller tree_of c.args.expressions.now c.loop-i.i c.index-expressions-i.result (omega arith) c.index-expressions-i.is in
    let smaller : 2 * size_of (tree_of c.index-expressions-i.result) < 2 * sizes_of (trees_of c.args.expressions.now) + 1 = omega arith in
    search rules
