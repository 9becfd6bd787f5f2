-- Trees whose first node reads nothing but leaves. No public contract names this file.
use Rattle.std.specs.Prelude.{Bool, true, false, ◌&&◌}
use Rattle.vx_fn.specs.Functions.{literal, get_item}
use Rattle.vx_tree.specs.Trees.{BoundTree, scope, node, BoundTrees, no_bound, bound}

-- whether the tree is the scope
abbrev pub is_root : BoundTree → Bool
is_root (scope t) = true
is_root _ = false

-- whether the trees are one alone, the scope
abbrev pub is_scope : BoundTrees → Bool
is_scope (bound b no_bound) = is_root b
is_scope _ = false

-- whether the tree is the scope, a field of it or a literal
abbrev pub is_leaf : BoundTree → Bool
is_leaf (scope t) = true
is_leaf (node t (literal u v) bs) = true
is_leaf (node t (get_item a) bs) = is_scope bs
is_leaf _ = false

-- whether all of the trees are
abbrev pub are_leaves : BoundTrees → Bool
are_leaves no_bound = true
are_leaves (bound b bs) = is_leaf b && are_leaves bs
