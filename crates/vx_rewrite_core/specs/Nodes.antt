-- Shapes of nodes, of which rules are made, and what a rule looks at in a node.
use Rattle.std.specs.Prelude.{◌≡◌, ◌≢◌, Bool, true, false, Option, Some, None, if◌then◌else◌}
use Rattle.vx_value.specs.Equality.{equal_type}
use Rattle.vx_value.specs.Types.{LogicalType, Datum}
use Rattle.vx_fn.specs.Functions.{literal, cast}
use Rattle.vx_tree.specs.Trees.{BoundTree, node, BoundTrees, no_bound, bound, node_type}

-- ---- trees together

-- one bound tree
abbrev pub one_bound : BoundTree → BoundTrees
one_bound x = bound x no_bound

-- two bound trees
abbrev pub two_bounds : BoundTree → BoundTree → BoundTrees
two_bounds x y = bound x (one_bound y)

-- three bound trees
abbrev pub three_bounds : BoundTree → BoundTree → BoundTree → BoundTrees
three_bounds x y z = bound x (two_bounds y z)

-- the only one of the trees
abbrev pub only_one : BoundTrees → Option BoundTree
only_one (bound x no_bound) = Some x
only_one _ = None

-- the two trees
abbrev pub two_of : BoundTrees → Option (BoundTree × BoundTree)
two_of (bound x (bound y no_bound)) = Some (x, y)
two_of _ = None

-- the three trees
abbrev pub three_of : BoundTrees → Option (BoundTree × BoundTree × BoundTree)
three_of (bound x (bound y (bound z no_bound))) = Some (x, y, z)
three_of _ = None

-- the first two of the trees, and the rest
abbrev pub first_two : BoundTrees → Option (BoundTree × BoundTree × BoundTrees)
first_two (bound x (bound y rest)) = Some (x, y, rest)
first_two _ = None

-- the tree, if the test holds
abbrev pub only_if : Bool → BoundTree → Option BoundTree
only_if true u = Some u
only_if false u = None

-- ---- literals

-- the literal of that type
abbrev pub literal_node : LogicalType → Datum → BoundTree
literal_node t c = node t (literal t c) no_bound

-- the value of a literal
abbrev pub literal_value : BoundTree → Option Datum
literal_value (node t (literal u c) xs) = Some c
literal_value _ = None

-- ---- casts

-- x as a value of that type
abbrev pub cast_node : LogicalType → BoundTree → BoundTree
cast_node t x = node t (cast t) (one_bound x)

-- x as a value of the type t: x itself where its type is t, else x cast to t
pub data AsType (t : LogicalType) (x : BoundTree) : BoundTree → Type 0 where
  as_it_is : node_type x ≡ t → AsType t x x
  as_cast : node_type x ≢ t → AsType t x (cast_node t x)

-- the same as a function
abbrev pub as_type : LogicalType → BoundTree → BoundTree
as_type t x = if equal_type (node_type x) t then x else cast_node t x
