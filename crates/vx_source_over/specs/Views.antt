-- What the steps of settling a tree hold. No public contract names this file.
use Rattle.std.specs.Prelude.{◌≡◌, ℕ, ◌==◌, length, Bool, true, false, List, [], ◌∷◌, Option, Some, None, Result, map, option_map, if◌then◌else◌}
use Rattle.std.specs.Borrow.{Bor}
use Rattle.vx_dtype.specs.declared.dtype.DType.{DType}
use Rattle.vx_value.specs.Columns.{Constant}
use Rattle.vx_value.specs.Types.{LogicalType}
use Rattle.vx_fn.specs.Functions.{Function, literal, fn_type}
use Rattle.vx_value.specs.Views.{type_of}
use Rattle.std.specs.Result.{result_ok}
use Rattle.vx_tree.specs.Trees.{Tree, Trees}
use Rattle.vx_tree.specs.Views.{tree_of, trees_from}
use Rattle.vx_source_types.specs.declared.error.ParseError.{ParseError}
use Rattle.vx_source_types.specs.declared.error.ParseError.TheVariants.{OutOfMemory as NoMemory, Unexpected as Stopped}
use Rattle.vx_source_over.specs.declared.error.OverError.{OverError}
use Rattle.vx_source_over.specs.declared.error.OverError.TheVariants.{OutOfMemory, Unexpected}
use Rattle.vx_source_over.specs.declared.nodes.Settled.{Settled}
use Rattle.vx_source_over.specs.declared.peers.Beside.{Beside}
use Rattle.vx_source_over.specs.Peers.{is_open}
use Rattle.vx_source_over.specs.Settling.{Refusal, type_over, settled, wished}

-- the tree that was settled
abbrev pub settled_tree : Settled → Tree
settled_tree x = tree_of x.tree

-- the trees that were settled, where there are
abbrev pub own_trees : List (Option Settled) → List (Option Tree)
own_trees xs = map (option_map settled_tree) xs

abbrev pub settled_trees : List Settled → Trees
settled_trees xs = trees_from (map settled_tree xs)

-- the literal of a scalar
abbrev pub literal_with : Constant → Function
literal_with c = literal c.type c.value

-- the other reading, of which a node is lent, and the type that is wished
abbrev pub other_of : Beside → Option Tree
other_of beside = option_map (λ d. tree_of d.now) beside.other

abbrev pub wish_of : Option (Bor DType) → Option LogicalType
wish_of wish = option_map (λ t. type_of t.now) wish

-- what a child is settled as that isn't settled yet: a peer with the wish, any other without one
abbrev pub said_of : LogicalType → Bool → Option LogicalType → Tree → Option Tree → Result Tree Refusal
said_of s is_peer w e d = if is_peer then wished s w e d else (if is_open e d then wished s None e d else settled s e d)

-- its type is known, where it has one over a scope of type s
abbrev pub IsTyped : LogicalType → Settled → Type 0
IsTyped s x = option_map type_of x.dtype ≡ type_over s (settled_tree x)

-- so of each that is there
abbrev pub AreTyped : LogicalType → List (Option Settled) → Type 0
AreTyped s [] = Unit {0}
AreTyped s (None ∷ xs) = AreTyped s xs
AreTyped s (Some x ∷ xs) = IsTyped s x × AreTyped s xs

-- so of each
abbrev pub EachTyped : LogicalType → List Settled → Type 0
EachTyped s [] = Unit {0}
EachTyped s (x ∷ xs) = IsTyped s x × EachTyped s xs

abbrev pub put_type : Option LogicalType → List LogicalType → List LogicalType
put_type None ts = ts
put_type (Some t) ts = t ∷ ts

-- the type of the function over so many types, if they are all there
abbrev pub type_of_all : Function → List LogicalType → ℕ → Option LogicalType
type_of_all f ts n = if length ts == n then result_ok (fn_type f ts) else None

-- the same refusal of a text that is read over a scope
abbrev pub over_error : ParseError → OverError
over_error NoMemory = OutOfMemory
over_error (Stopped at x) = Unexpected at x

-- the first of them, if it is there
abbrev pub first_own : List (Option Settled) → Option Settled
first_own [] = None
first_own (x ∷ xs) = x

-- the type that is known of it, if it is there
abbrev pub dtype_in : Option Settled → Option DType
dtype_in None = None
dtype_in (Some x) = x.dtype

-- whether none is there
abbrev pub none_of : List (Option Tree) → Bool
none_of [] = true
none_of (None ∷ own) = none_of own
none_of (Some t ∷ own) = false

-- the types of those that have one
abbrev pub types_of : List Settled → List LogicalType
types_of [] = []
types_of (x ∷ xs) = put_type (option_map type_of x.dtype) (types_of xs)
