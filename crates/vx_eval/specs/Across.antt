-- Trees with a node that looks across rows. Such a tree is not evaluated by blocks.
use Rattle.std.specs.Prelude.{Bool, true, false, not, ◌||◌}
use Rattle.vx_fn.specs.Functions.{Function, literal, fill_null}
use Rattle.vx_tree.specs.Trees.{BoundTree, scope, node, BoundTrees, no_bound, bound}

-- whether the tree is a literal
abbrev pub is_literal : BoundTree → Bool
is_literal (node t (literal u v) bs) = true
is_literal _ = false

-- whether a node looks across rows: it fills nulls, by what isn't a literal
abbrev pub is_across : Function → BoundTrees → Bool
is_across fill_null (bound a (bound b no_bound)) = not (is_literal b)
is_across fill_null _ = true
is_across _ _ = false

-- whether some node of the tree looks across rows
abbrev mutual
  pub looks_across : BoundTree → Bool
  looks_across (scope t) = false
  looks_across (node t f bs) = is_across f bs || some_across bs

  pub some_across : BoundTrees → Bool
  some_across no_bound = false
  some_across (bound b bs) = looks_across b || some_across bs
