-- Trees that are packed into a struct, and items that are taken out of one.
use Rattle.std.specs.Prelude.{false, List, [], ◌∷◌, Option, Some, None, Ok, Err, if◌then◌else◌}
use Rattle.std.specs.Str.{bytes_eq}
use Rattle.vx_value.specs.Types.{Name, LogicalType, ty, struct, no_field, Datum, struct_of}
use Rattle.vx_value.specs.Fields.{fields_named, data_of}
use Rattle.vx_fn.specs.Functions.{get_item, pack, Typing, fn_type}
use Rattle.vx_tree.specs.Meaning.{values}
use Rattle.vx_tree.specs.Trees.{BoundTree, node, BoundTrees, no_bound, bound, node_type, node_types}

-- the type that typing gives, of a refusal that of a struct without fields
abbrev pub given_type : Typing → LogicalType
given_type (Ok t) = t
given_type (Err refusal) = ty (struct no_field) false

-- the item of that name of a tree, with the type that typing gives
abbrev pub item_of : Name → BoundTree → BoundTree
item_of a b = node (given_type (fn_type (get_item a) (node_type b ∷ []))) (get_item a) (bound b no_bound)

-- the struct type, not nullable, with the trees' types under these names
abbrev pub struct_type : List Name → BoundTrees → LogicalType
struct_type names bs = ty (struct (fields_named names (node_types bs))) false

-- the trees packed under these names, never null
abbrev pub packed : List Name → BoundTrees → BoundTree
packed names bs = node (struct_type names bs) (pack names false) bs

-- the struct of the trees' values at a row
abbrev pub joined : BoundTrees → Datum → Datum
joined bs v = struct_of (data_of (values bs v))

-- the first of the trees that has that name
abbrev pub tree_named : Name → List Name → BoundTrees → Option BoundTree
tree_named a (b ∷ names) (bound x xs) = if bytes_eq a b then Some x else tree_named a names xs
tree_named a _ _ = None
