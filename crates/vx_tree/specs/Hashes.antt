-- What a tree feeds to a hasher, so that equal ones are hashed alike.
use Rattle.std.specs.Prelude.{◌≡◌, ◌++◌, IsTrue}
use Rattle.std.specs.Hash.{HashWrites, Alike, same_Alike}
use Rattle.std.specs.Hash as fed
use Rattle.vx_value.specs.Types.{Datum}
use Rattle.vx_fn.specs.Equality.{function_fed}
use Rattle.vx_tree.specs.Equality.{equal_tree, equal_tree-Decides, equal_bound, equal_bound-Decides}
use Rattle.vx_tree.specs.Trees.{Tree, root, call, Trees, no_tree, tree, BoundTree, unbound}
use Rattle.vx_tree.specs.Meaning.{value}

-- the scope root is hashed as a zero, and a function node as a one, its function and its children
abbrev mutual
  pub tree_fed : Tree → HashWrites
  tree_fed root = fed.u8 0
  tree_fed (call f es) = fed.u8 1 ++ (function_fed f ++ trees_fed es)

  -- trees are hashed one after another, and a two ends them
  pub trees_fed : Trees → HashWrites
  trees_fed no_tree = fed.u8 2
  trees_fed (tree e es) = tree_fed e ++ trees_fed es

-- a bound tree is hashed as its source, from which and from the scope's type its types follow
abbrev pub bound_fed : BoundTree → HashWrites
bound_fed b = tree_fed (unbound b)

-- equal trees are hashed alike
pub tree_alike : Alike equal_tree tree_fed
tree_alike = same_Alike tree_fed equal_tree-Decides

-- equal bound trees are hashed alike
pub bound_alike : Alike equal_bound bound_fed
bound_alike = same_Alike bound_fed equal_bound-Decides

-- equal trees, of either kind, are hashed alike, and equal bound trees have one value at each row
abbrev pub EqualTreesAreAlike : Type 0
EqualTreesAreAlike =
    ((d e : Tree) → IsTrue (equal_tree d e) → tree_fed d ≡ tree_fed e)
    × ((b c : BoundTree) → IsTrue (equal_bound b c) → (bound_fed b ≡ bound_fed c) × ((v : Datum) → value b v ≡ value c v))
