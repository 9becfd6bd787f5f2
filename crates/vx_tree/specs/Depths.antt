-- How deep trees are.
use Rattle.std.specs.Prelude.{ℕ, ◌+◌, max}
use Rattle.vx_tree.specs.Trees.{Tree, root, call, Trees, no_tree, tree}

-- how many nodes the longest way from the first node down has
abbrev mutual
  pub depth_of : Tree → ℕ
  depth_of root = 1
  depth_of (call f es) = depths_of es + 1

  -- the greatest depth, 0 of no tree
  pub depths_of : Trees → ℕ
  depths_of no_tree = 0
  depths_of (tree e es) = max (depth_of e) (depths_of es)
