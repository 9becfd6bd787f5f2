-- Scalars that stand in one list.
use Rattle.std.specs.Prelude.{false, List, [], ◌∷◌, map, Option, Some, None, option_map, option_and_then}
use Rattle.vx_value.specs.Columns.{Constant, constant}
use Rattle.vx_value.specs.Fields.{data_of}
use Rattle.vx_value.specs.Joins.{union_of}
use Rattle.vx_value.specs.Types.{LogicalType, ty, list, Datum, list_of}
use Rattle.vx_fn.specs.Functions.{literal}
use Rattle.vx_tree.specs.Trees.{Tree, call, Trees, no_tree, tree}
use Rattle.vx_source_types.specs.Literals.{fitting}

-- the scalar of a literal
abbrev pub scalar_at : Tree → Option Constant
scalar_at (call (literal t v) no_tree) = Some (constant t v)
scalar_at e = None

-- the scalars of the trees, if each is a literal
abbrev pub scalars_in : Trees → Option (List Constant)
scalars_in no_tree = Some []
scalars_in (tree e es) = option_and_then (λ c. option_map (λ cs. c ∷ cs) (scalars_in es)) (scalar_at e)

abbrev pub types_in : List Constant → List LogicalType
types_in cs = map (λ (c : Constant). c.type) cs

abbrev pub values_in : List Constant → List Datum
values_in cs = map (λ (c : Constant). c.value) cs

-- the list of the scalars, if their types differ in nullability alone: of elements of the union of these types
abbrev pub listed : List Constant → Option Constant
listed cs = option_and_then (λ t. fitting (ty (list t) false) (list_of (data_of (values_in cs)))) (union_of (types_in cs))
