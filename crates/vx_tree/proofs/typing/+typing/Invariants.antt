use Rattle.std.proofs.Common.{◌≡◌, ◌+◌, ◌*◌, drop}
use Rattle.vx_value.specs.Views.{type_of}
use Rattle.vx_tree.specs.Nodes.{size_of, sizes_of}
use Rattle.vx_tree.specs.Trees.{each_typed}
use Rattle.vx_tree.specs.Views.{tree_of, trees_of}
use Rattle.vx_tree.proofs.Typings.{after}
use Rattle.vx_tree.proofs.typing.+typing.Given as goal

abbrev pub decreases-push_type : goal.decreases-push_type
decreases-push_type l = 2 * size_of (tree_of l.e.now)

abbrev pub decreases-type_all : goal.decreases-type_all
decreases-type_all l = 2 * sizes_of (trees_of l.es.now) + 1

-- the types so far before those of the rest are all the types
abbrev pub invariant-type_all-loop-i : goal.invariant-type_all-loop-i
invariant-type_all-loop-i l =
    each_typed (trees_of l.es) (type_of l.scope) ≡ after l.types.items (each_typed (trees_of (drop l.i l.es)) (type_of l.scope))
