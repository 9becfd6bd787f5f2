-- Trees whose first node walks over rows, and one below it, too. Such a tree is evaluated by blocks. No public contract names this file.
use Rattle.std.specs.Prelude.{Bool, true, false, ◌&&◌, ◌||◌}
use Rattle.vx_fn.specs.Functions.{Function, literal, get_item, pack, select}
use Rattle.vx_tree.specs.Trees.{BoundTree, scope, node, BoundTrees, no_bound, bound}

-- whether the function walks over rows: those that share columns don't
abbrev pub walks : Function → Bool
walks (literal u v) = false
walks (get_item a) = false
walks (pack names m) = false
walks (select s) = false
walks _ = true

-- whether some node of the trees does
abbrev mutual
  pub has_walk : BoundTree → Bool
  has_walk (scope t) = false
  has_walk (node t f bs) = walks f || some_walk bs

  pub some_walk : BoundTrees → Bool
  some_walk no_bound = false
  some_walk (bound b bs) = has_walk b || some_walk bs

-- whether the first node does, and one below it
abbrev pub walks_twice : BoundTree → Bool
walks_twice (scope t) = false
walks_twice (node t f bs) = walks f && some_walk bs
