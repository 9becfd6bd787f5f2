use Rattle.std.proofs.Common.{◌≡◌, ◌<◌, drop, ◌++◌, ◌||◌, map, length}
use Rattle.std.specs.Prelude.{All}
use Rattle.vx_tree.specs.Nodes.{size_of}
use Rattle.vx_tree.specs.Trees.{unbound}
use Rattle.vx_tree.specs.Views.{bound_of, bounds_of}
use Rattle.vx_rewrite_analysis.specs.Numbers.{tree_at, has_node, IsNumbered, KeepsNumbers}
use Rattle.vx_rewrite_analysis.specs.Reached.{occurs_in}
use Rattle.vx_rewrite_analysis.proofs.numbers.+number_of.Given as goal

-- once the children that are left have numbers, all have; the children's numbers so far are below the number of nodes, and their trees and the children that are left are all
abbrev pub invariant-loop-child : goal.invariant-loop-child
invariant-loop-child l = record {
  numbered : IsNumbered l.nodes.keys;
  kept : KeepsNumbers l.fn.nodes.keys l.nodes.keys;
  nodes : (n : _) → (occurs_in n (bounds_of (drop l.child-index l.child-items)) || has_node n l.nodes.keys) ≡ (occurs_in n (bounds_of l.child-items) || has_node n l.fn.nodes.keys);
  below : All (λ k. k < length l.nodes.keys) l.children.items;
  trees : map (tree_at l.nodes.keys) l.children.items ++ map bound_of (drop l.child-index l.child-items) ≡ map bound_of l.child-items;
}

abbrev pub decreases-number_of : goal.decreases-number_of
decreases-number_of l = size_of (unbound (bound_of l.e.now))
