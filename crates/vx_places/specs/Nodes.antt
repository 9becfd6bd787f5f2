-- The node at a place of a tree.
use Rattle.std.specs.Prelude.{ℕ, List, [], ◌∷◌, Option, Some, None, option_and_then}
use Rattle.vx_dtype.specs.declared.error.VortexError.{VortexError}
use Rattle.vx_dtype.specs.declared.error.VortexError.TheVariants.{AddOverflow, CastNull, RowMisfit, DivisionByZero}
use Rattle.vx_tree.specs.Nodes.{children_of, tree_at}
use Rattle.vx_tree.specs.Trees.{Tree}

-- the node that the child indices lead to, from the first node down
abbrev pub node_at : List ℕ → Tree → Option Tree
node_at [] e = Some e
node_at (i ∷ path) e = option_and_then (node_at path) (tree_at (children_of e) i)

-- the row that a refusal names
abbrev pub row_of : VortexError → Option ℕ
row_of (AddOverflow row) = Some row
row_of (CastNull row) = Some row
row_of (RowMisfit row) = Some row
row_of (DivisionByZero row) = Some row
row_of _ = None
