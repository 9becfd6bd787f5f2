-- The elements of the literal list that values are looked up in.
use Rattle.std.specs.Prelude.{Bool, true, false, ◌&&◌, Option, Some, None}
use Rattle.vx_value.specs.Columns.{Constant}
use Rattle.vx_value.specs.Types.{LogicalType, ty, list, Datum, list_of, Data, no_datum, datum}
use Rattle.vx_tree.specs.Nodes.{bound_at}
use Rattle.vx_tree.specs.Trees.{BoundTree, BoundTrees}
use Rattle.vx_sql.specs.Children.{literal_in}
use Rattle.vx_sql.specs.Zeros.{no_zero}

-- the type of a list's elements
abbrev pub item_type : LogicalType → LogicalType
item_type (ty (list t) n) = t
item_type t = t

-- the elements of a list, none of another value
abbrev pub items_in : Datum → Data
items_in (list_of vs) = vs
items_in _ = no_datum

abbrev pub has_items : Data → Bool
has_items no_datum = false
has_items (datum v vs) = true

-- whether none of them is 0 or -0
abbrev pub no_zeros : Data → Bool
no_zeros no_datum = true
no_zeros (datum v vs) = no_zero v && no_zeros vs

-- the literal that the first child is
abbrev pub literal_of_child : Option BoundTree → Option Constant
literal_of_child None = None
literal_of_child (Some b) = literal_in b

abbrev pub literal_first : BoundTrees → Option Constant
literal_first bs = literal_of_child (bound_at bs 0)
