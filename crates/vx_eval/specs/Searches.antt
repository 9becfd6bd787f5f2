-- Trees with a search in a long literal list. Such a tree is not evaluated by blocks. No public contract names this file.
use Rattle.std.specs.Prelude.{Bool, true, false, ◌||◌, nat_lt}
use Rattle.vx_value.specs.Fits.{count}
use Rattle.vx_value.specs.Types.{Datum, list_of}
use Rattle.vx_fn.specs.Functions.{Function, literal, list_contains}
use Rattle.vx_tree.specs.Trees.{BoundTree, scope, node, BoundTrees, no_bound, bound}

-- whether the value is a list of more than 64 elements
abbrev pub is_long_list : Datum → Bool
is_long_list (list_of ws) = nat_lt 64 (count ws)
is_long_list _ = false

-- whether the tree is such a list, as a literal
abbrev pub is_long : BoundTree → Bool
is_long (node t (literal u v) bs) = is_long_list v
is_long _ = false

-- whether a node searches in such a list
abbrev pub is_search : Function → BoundTrees → Bool
is_search list_contains (bound a bs) = is_long a
is_search _ _ = false

-- whether some node of the tree does
abbrev mutual
  pub searches : BoundTree → Bool
  searches (scope t) = false
  searches (node t f bs) = is_search f bs || some_search bs

  pub some_search : BoundTrees → Bool
  some_search no_bound = false
  some_search (bound b bs) = searches b || some_search bs
