-- A node over holes, which take its children's values out of structs. No public contract names this file.
use Rattle.std.specs.Prelude.{ℕ, false, List, [], ◌∷◌, length, map}
use Rattle.std.specs.Fmt.{decimal}
use Rattle.std.specs.List.{range_with_len}
use Rattle.vx_value.specs.Columns.{Batch, batch}
use Rattle.vx_value.specs.Fields.{fields_named, data_of}
use Rattle.vx_value.specs.Types.{Name, LogicalType, ty, struct, Datum, struct_of}
use Rattle.vx_fn.specs.Functions.{get_item}
use Rattle.vx_tree.specs.Meaning.{values}
use Rattle.vx_tree.specs.Trees.{BoundTree, scope, node, BoundTrees, no_bound, bound, node_types}

-- so many names: the indices from that one on
abbrev pub names_from : ℕ → ℕ → List Name
names_from i n = map decimal (range_with_len i n)

-- the struct type, not nullable, of the types by their indices
abbrev pub indexed_type : List LogicalType → LogicalType
indexed_type ts = ty (struct (fields_named (names_from 0 (length ts)) ts)) false

-- the structs of the trees' values, one for each row
abbrev pub structs_of : BoundTrees → List Datum → Batch
structs_of bs rows = batch (indexed_type (node_types bs)) (map (λ v. struct_of (data_of (values bs v))) rows)

-- the field of that name of a scope of type s, where the field's type is known
abbrev pub hole : LogicalType → Name → LogicalType → BoundTree
hole s a t = node t (get_item a) (bound (scope s) no_bound)

-- a hole for each name and type
abbrev pub holes : LogicalType → List Name → List LogicalType → BoundTrees
holes s (a ∷ names) (t ∷ ts) = bound (hole s a t) (holes s names ts)
holes s _ _ = no_bound
