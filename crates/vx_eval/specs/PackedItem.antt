-- An item of what is packed. No public contract names this file.
use Rattle.std.specs.Prelude.{◌≡◌, ◌<◌, ⊤, ℕ, List, [], length, get_or, Option, None, Result, Ok, Err, position}
use Rattle.std.specs.Str.{bytes_eq}
use Rattle.vx_dtype.specs.declared.error.VortexError.{VortexError}
use Rattle.vx_value.specs.Types.{Name, LogicalType, Datum}
use Rattle.vx_fn.specs.Functions.{Function, get_item, pack}
use Rattle.vx_tree.specs.Trees.{BoundTree, scope, node, BoundTrees, no_bound, bound, node_types}
use Rattle.vx_eval.specs.Evaluation.{tree_answer, each_answer}

-- the column at that place, or the fault
abbrev pub picked : ℕ → Result (List (List Datum)) VortexError → Result (List Datum) VortexError
picked k (Ok cs) = Ok (get_or cs k [])
picked k (Err fault) = Err fault

-- the column at that place of the node's children, or their first fault
abbrev pub item_answer : BoundTree → ℕ → List Datum → Result (List Datum) VortexError
item_answer (scope t) k rows = Ok rows
item_answer (node t f bs) k rows = picked k (each_answer bs rows)

-- the function is a pack
abbrev pub IsPack : Function → Type 0
IsPack (pack names n) = ⊤
IsPack _ = ⊥

-- the node is a pack that has an item at that place
abbrev pub PacksAt : BoundTree → ℕ → Type 0
PacksAt (scope t) k = ⊥
PacksAt (node t f bs) k = IsPack f × (k < length (node_types bs))

-- the place of the item of that name in what the function packs, if it is a pack that has one
abbrev pub place_in : Name → Function → Option ℕ
place_in a (pack names n) = position (bytes_eq a) names
place_in a _ = None

-- the same of the tree's first node
abbrev pub place_in_node : Name → BoundTree → Option ℕ
place_in_node a (scope t) = None
place_in_node a (node t f bs) = place_in a f

-- the place, in what its first child packs, of the item that the function takes out of it, if it does
abbrev pub place_taken : Function → BoundTrees → Option ℕ
place_taken (get_item a) (bound b bs) = place_in_node a b
place_taken _ _ = None

-- over each batch, the function takes out what its first child packs at that place
abbrev pub TakesOut : Function → BoundTrees → ℕ → Type 0
TakesOut f no_bound k = ⊥
TakesOut f (bound b bs) k = PacksAt b k × ((t : LogicalType) (rows : List Datum) → tree_answer (node t f (bound b bs)) rows ≡ item_answer b k rows)
