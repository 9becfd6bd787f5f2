-- What a tree means at one row.
use Rattle.std.specs.Prelude.{List, [], ◌∷◌, Result, Ok, Err}
use Rattle.vx_value.specs.Types.{LogicalType, Datum}
use Rattle.vx_fn.specs.Values.{fn_value}
use Rattle.vx_dtype.specs.declared.error.VortexError.{VortexError}
use Rattle.vx_tree.specs.Trees.{Tree, root, call, Trees, no_tree, tree, BoundTree, scope, node, BoundTrees, no_bound, bound, node_types, each_typed}

-- the types, none after a refusal
abbrev pub types_or_none : Result (List LogicalType) VortexError → List LogicalType
types_or_none (Ok ts) = ts
types_or_none (Err r) = []

-- the value of the tree over scope type s at the row v
abbrev mutual
  pub mean : Tree → LogicalType → Datum → Datum
  mean root s v = v
  mean (call f es) s v = fn_value f (types_or_none (each_typed es s)) (each_mean es s v)

  pub each_mean : Trees → LogicalType → Datum → List Datum
  each_mean no_tree s v = []
  each_mean (tree e es) s v = mean e s v ∷ each_mean es s v

-- the same of a bound tree, which has its types at hand
abbrev mutual
  pub value : BoundTree → Datum → Datum
  value (scope t) v = v
  value (node t f bs) v = fn_value f (node_types bs) (values bs v)

  pub values : BoundTrees → Datum → List Datum
  values no_bound v = []
  values (bound b bs) v = value b v ∷ values bs v
