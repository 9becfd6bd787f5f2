-- A tree bound to a scope's type: each node with its type, or the first refusal.
use Rattle.std.specs.Prelude.{Result, Ok}
use Rattle.vx_dtype.specs.declared.error.VortexError.{VortexError}
use Rattle.vx_value.specs.Types.{LogicalType}
use Rattle.vx_fn.specs.Functions.{Function, fn_type}
use Rattle.vx_tree.specs.Trees.{Tree, root, call, Trees, no_tree, tree, BoundTree, scope, node, BoundTrees, no_bound, bound, node_types, on_ok}

-- the node of a function over its children, with the type that its row gives
abbrev pub node_over : Function → BoundTrees → Result BoundTree VortexError
node_over f bs = on_ok (λ t. Ok (node t f bs)) (fn_type f (node_types bs))

-- a tree, or trees from left to right, with the type of each node, or the first refusal: the children's, then the node's
abbrev mutual
  pub binding : Tree → LogicalType → Result BoundTree VortexError
  binding root s = Ok (scope s)
  binding (call f es) s = on_ok (node_over f) (each_binding es s)

  pub each_binding : Trees → LogicalType → Result BoundTrees VortexError
  each_binding no_tree s = Ok no_bound
  each_binding (tree e es) s = on_ok (λ b. on_ok (λ bs. Ok (bound b bs)) (each_binding es s)) (binding e s)
