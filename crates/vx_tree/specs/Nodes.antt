-- What is at a node of a tree, and the node over other children.
use Rattle.std.specs.Prelude.{ℕ, zero, suc, ◌+◌, ◌==◌, Bool, true, false, ◌&&◌, ◌||◌, Option, Some, None, option_and_then, Result, Ok, Err, if◌then◌else◌}
use Rattle.vx_dtype.specs.declared.error.VortexError.{VortexError}
use Rattle.vx_dtype.specs.declared.error.VortexError.TheVariants.{ArityMismatch, RootChildren}
use Rattle.vx_value.specs.Equality.{equal_type}
use Rattle.vx_value.specs.Types.{LogicalType}
use Rattle.vx_fn.specs.Functions.{Function, arity_of}
use Rattle.vx_tree.specs.Trees.{Tree, root, call, Trees, no_tree, tree, BoundTree, scope, node, BoundTrees, no_bound, bound}
use Rattle.vx_tree.specs.Binding.{node_over}

-- whether the tree is the scope root alone
abbrev pub is_root : Tree → Bool
is_root root = true
is_root (call f es) = false

-- the function of a function node
abbrev pub function_at : Tree → Option Function
function_at root = None
function_at (call f es) = Some f

-- whether the tree is a function node whose function passes the test
abbrev pub is_call_of : (Function → Bool) → Tree → Bool
is_call_of p root = false
is_call_of p (call f es) = p f

-- whether some node of the tree is a function node whose function passes the test
abbrev mutual
  pub has_call_of : (Function → Bool) → Tree → Bool
  has_call_of p root = false
  has_call_of p (call f es) = p f || have_call_of p es

  pub have_call_of : (Function → Bool) → Trees → Bool
  have_call_of p no_tree = false
  have_call_of p (tree e es) = has_call_of p e || have_call_of p es

-- the function, if it passes the test
abbrev pub passing : (Function → Bool) → Function → Option Function
passing p f = if p f then Some f else None

-- the function of a function node, if it passes the test
abbrev pub function_where : (Function → Bool) → Tree → Option Function
function_where p e = option_and_then (passing p) (function_at e)

-- the children of the node, none of the scope root
abbrev pub children_of : Tree → Trees
children_of root = no_tree
children_of (call f es) = es

-- how many trees there are
abbrev pub count_of : Trees → ℕ
count_of no_tree = 0
count_of (tree e es) = count_of es + 1

-- the tree at a place, counted from 0
abbrev pub tree_at : Trees → ℕ → Option Tree
tree_at no_tree i = None
tree_at (tree e es) zero = Some e
tree_at (tree e es) (suc i) = tree_at es i

-- the children of a bound node, none of a scope root
abbrev pub bound_children_of : BoundTree → BoundTrees
bound_children_of (scope t) = no_bound
bound_children_of (node t f bs) = bs

-- how many bound trees there are
abbrev pub bound_count_of : BoundTrees → ℕ
bound_count_of no_bound = 0
bound_count_of (bound b bs) = bound_count_of bs + 1

-- the bound tree at a place, counted from 0
abbrev pub bound_at : BoundTrees → ℕ → Option BoundTree
bound_at no_bound i = None
bound_at (bound b bs) zero = Some b
bound_at (bound b bs) (suc i) = bound_at bs i

-- the node of a function over as many children as its arity, and no other number
abbrev pub call_over : Function → Trees → Result Tree VortexError
call_over f es = if count_of es == arity_of f then Ok (call f es) else Err (ArityMismatch (arity_of f) (count_of es))

-- the tree's node over other children, of which the scope root takes none
abbrev pub tree_over : Tree → Trees → Result Tree VortexError
tree_over root no_tree = Ok root
tree_over root (tree e es) = Err (RootChildren (count_of (tree e es)))
tree_over (call f old) es = call_over f es

-- the bound tree's node over other children, with the type that its row gives over theirs
abbrev pub bound_over : BoundTree → BoundTrees → Result BoundTree VortexError
bound_over (scope t) no_bound = Ok (scope t)
bound_over (scope t) (bound b bs) = Err (RootChildren (bound_count_of (bound b bs)))
bound_over (node t f old) bs = node_over f bs

-- the refusal of the number of other children, if the bound tree's node refuses it
abbrev pub number_refusal : BoundTree → BoundTrees → Option VortexError
number_refusal (scope t) no_bound = None
number_refusal (scope t) (bound b bs) = Some (RootChildren (bound_count_of (bound b bs)))
number_refusal (node t f old) bs = if bound_count_of bs == arity_of f then None else Some (ArityMismatch (arity_of f) (bound_count_of bs))

-- whether each scope root has the type
abbrev mutual
  pub is_over : BoundTree → LogicalType → Bool
  is_over (scope t) s = equal_type t s
  is_over (node t f bs) s = are_over bs s

  pub are_over : BoundTrees → LogicalType → Bool
  are_over no_bound s = true
  are_over (bound b bs) s = is_over b s && are_over bs s

-- how many nodes there are
abbrev mutual
  pub size_of : Tree → ℕ
  size_of root = 1
  size_of (call f es) = sizes_of es + 1

  pub sizes_of : Trees → ℕ
  sizes_of no_tree = 0
  sizes_of (tree e es) = size_of e + sizes_of es
