use Rattle.std.proofs.Common.{◌≡◌, ◌+◌, ◌*◌, drop}
use Rattle.std.specs.Prelude.{option_map}
use Rattle.vx_fn.specs.Views.{function_of}
use Rattle.vx_value.specs.Views.{type_of}
use Rattle.vx_tree.specs.Nodes.{size_of, sizes_of}
use Rattle.vx_tree.specs.Views.{tree_of, trees_of}
use Rattle.vx_source_over.specs.Settling.{owned, rest}
use Rattle.vx_source_over.specs.Views.{AreTyped, EachTyped, other_of, own_trees}
use Rattle.vx_source_over.proofs.Steps.{own_after, rest_after}
use Rattle.vx_source_over.proofs.settle.+settle.Given as goal

abbrev pub decreases-settle : goal.decreases-settle
decreases-settle l = 3 * size_of (tree_of l.e.now) + 1

abbrev pub decreases-own : goal.decreases-own
decreases-own l = 3 * size_of (tree_of l.e.now)

abbrev pub decreases-wished : goal.decreases-wished
decreases-wished l = 3 * size_of (tree_of l.e.now)

abbrev pub decreases-own_all : goal.decreases-own_all
decreases-own_all l = 3 * sizes_of (trees_of l.es.now) + 2

abbrev pub decreases-rest : goal.decreases-rest
decreases-rest l = 3 * sizes_of (trees_of l.es.now) + 2

-- those so far before the others are all
abbrev pub invariant-own_all-loop-i : goal.invariant-own_all-loop-i
invariant-own_all-loop-i l = record {
  trees : owned (type_of l.over.scope.now) (function_of l.scalar_fn) 0 (trees_of l.es) (other_of l.beside) ≡ own_after l.all.items (owned (type_of l.over.scope.now) (function_of l.scalar_fn) l.i (trees_of (drop l.i l.es)) (other_of l.beside));
  typed : AreTyped (type_of l.over.scope.now) l.all.items;
}

abbrev pub invariant-rest-loop-i : goal.invariant-rest-loop-i
invariant-rest-loop-i l = record {
  trees : rest (type_of l.over.scope.now) (option_map type_of l.fn.begun.wish) (function_of l.scalar_fn) 0 (trees_of l.es) (other_of l.beside) (own_trees l.fn.begun.own.items)
      ≡ rest_after l.all.items (rest (type_of l.over.scope.now) (option_map type_of l.fn.begun.wish) (function_of l.scalar_fn) l.i (trees_of (drop l.i l.es)) (other_of l.beside) (own_trees l.own.rest.items));
  wish : l.wish ≡ l.fn.begun.wish;
  typed : AreTyped (type_of l.over.scope.now) l.fn.begun.own.items → AreTyped (type_of l.over.scope.now) l.own.rest.items × EachTyped (type_of l.over.scope.now) l.all.items;
}
