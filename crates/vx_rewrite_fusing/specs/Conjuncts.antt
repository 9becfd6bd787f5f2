-- The conjuncts of a tree, range comparisons, and when two of them are one Between.
use Rattle.std.specs.Prelude.{◌≡◌, Bool, true, false, ◌&&◌, ◌||◌, List, [], ◌∷◌, ◌++◌, Option, Some, None, if◌then◌else◌}
use Rattle.std.specs.declared.alloc.Global.{Global}
use Rattle.std.specs.declared.boxed.Box.{Box}
use Rattle.vx_value.specs.Types.{LogicalType, is_nullable}
use Rattle.vx_fn.specs.Functions.{Operation, binary, and_also, compares, Comparison, equal, not_equal, greater, greater_or_equal, less, less_or_equal, mirrored, between, truth_type}
use Rattle.vx_dtype.specs.Lists.{IsIn}
use Rattle.vx_fn.specs.Markers.{is_get_item, is_literal}
use Rattle.vx_tree.specs.Trees.{BoundTree, scope, node, BoundTrees, no_bound, bound, unbound, node_type}
use Rattle.vx_tree.specs.Nodes.{is_call_of}
use Rattle.vx_tree.specs.Views.{bound_of}
use Rattle.vx_tree.specs.declared.bound.BoundExpression.{BoundExpression}

-- two trees as the children of a node
abbrev pub two_bounds : BoundTree → BoundTree → BoundTrees
two_bounds x y = bound x (bound y no_bound)

-- the node has that operation over two children
abbrev pub IsBinary : Operation → BoundTree → BoundTree → BoundTree → Type 0
IsBinary op x y b = (t : LogicalType) × (b ≡ node t (binary op) (two_bounds x y))

-- the tree in a box
abbrev pub tree_in : Box BoundExpression Global → BoundTree
tree_in b = bound_of b.value

-- ---- conjuncts

-- an And with the type that is stored at it
abbrev pub and_node : LogicalType → BoundTree → BoundTree → BoundTree
and_node t l r = node t (binary and_also) (two_bounds l r)

-- the And of the two, typed anew
abbrev pub and_of : BoundTree → BoundTree → BoundTree
and_of l r = and_node (truth_type (is_nullable (node_type l) || is_nullable (node_type r))) l r

-- whether the node is an And
abbrev pub is_and : BoundTree → Bool
is_and (node t (binary and_also) (bound l (bound r no_bound))) = true
is_and b = false

-- the tree alone where it isn't an And, else those of its left child, then those of its right child
abbrev pub conjuncts : BoundTree → List BoundTree
conjuncts (node t (binary and_also) (bound l (bound r no_bound))) = conjuncts l ++ conjuncts r
conjuncts b = b ∷ []

-- the conjuncts of what is left of a tree, if something is
abbrev pub conjuncts_left : Option BoundTree → List BoundTree
conjuncts_left None = []
conjuncts_left (Some r) = conjuncts r

-- the And of what is left of two trees, or the one of which something is
abbrev pub conjoined : Option BoundTree → Option BoundTree → Option BoundTree
conjoined None r = r
conjoined (Some l) None = Some l
conjoined (Some l) (Some r) = Some (and_of l r)

-- ---- range comparisons

-- an item is bounded by a literal, from below or from above, and strictly or not
pub data Range : Type 0 where
  from_below : (strict : Bool) → (item bound : BoundTree) → Range
  from_above : (strict : Bool) → (item bound : BoundTree) → Range

-- whether the node is a field of a struct
abbrev pub is_item : BoundTree → Bool
is_item b = is_call_of is_get_item (unbound b)

-- whether the node is a literal
abbrev pub is_constant : BoundTree → Bool
is_constant b = is_call_of is_literal (unbound b)

-- what the comparison of x with y says of x, for an item x and a literal y
abbrev pub range : Comparison → BoundTree → BoundTree → Option Range
range greater x y = Some (from_below true x y)
range greater_or_equal x y = Some (from_below false x y)
range less x y = Some (from_above true x y)
range less_or_equal x y = Some (from_above false x y)
range equal x y = None
range not_equal x y = None

-- the range of a comparison between an item and a literal, which is turned round where the literal is on the left
abbrev pub range_of : BoundTree → Option Range
range_of (node t (binary (compares c)) (bound x (bound y no_bound))) =
    if is_item x && is_constant y then range c x y
    else if is_constant x && is_item y then range (mirrored c) y x
    else None
range_of b = None

-- ---- two of them as one

-- the Between of an item and two bounds, with its type
abbrev pub between_node : Bool → Bool → BoundTree → BoundTree → BoundTree → BoundTree
between_node lower_strict upper_strict x l u =
    node (truth_type (is_nullable (node_type x) || is_nullable (node_type l) || is_nullable (node_type u)))
    (between lower_strict upper_strict) (bound x (bound l (bound u no_bound)))

-- c and d bound one item from opposite sides, and m is the Between that says both
pub data MergeTo : BoundTree → BoundTree → BoundTree → Type 0 where
  below_and_above : {c d x y z : BoundTree} {ls us : Bool} → range_of c ≡ Some (from_below ls x y) → range_of d ≡ Some (from_above us x z) → MergeTo c d (between_node ls us x y z)
  above_and_below : {c d x y z : BoundTree} {ls us : Bool} → range_of c ≡ Some (from_above us x z) → range_of d ≡ Some (from_below ls x y) → MergeTo c d (between_node ls us x y z)

-- c and d are one Between
abbrev pub Mergeable : BoundTree → BoundTree → Type 0
Mergeable c d = (m : BoundTree) × MergeTo c d m

-- none of the first trees is mergeable with one of the second
abbrev pub NoneMergeable : List BoundTree → List BoundTree → Type 0
NoneMergeable cs ds = (c d : BoundTree) → IsIn c cs → IsIn d ds → Mergeable c d → ⊥

-- no And at any node has two conjuncts that are mergeable
abbrev mutual
  pub Fused : BoundTree → Type 0
  Fused (scope t) = Unit {0}
  Fused (node t f bs) = NoneMergeable (conjuncts (node t f bs)) (conjuncts (node t f bs)) × EachFused bs

  pub EachFused : BoundTrees → Type 0
  EachFused no_bound = Unit {0}
  EachFused (bound b bs) = Fused b × EachFused bs

-- no And below the root has
abbrev pub FusedBelow : BoundTree → Type 0
FusedBelow (scope t) = Unit {0}
FusedBelow (node t f bs) = EachFused bs
