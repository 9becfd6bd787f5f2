-- The tree that is true exactly where another isn't null.
use Rattle.std.specs.Prelude.{◌≡◌, Bool, true, false, not, List}
use Rattle.vx_value.specs.Types.{LogicalType, Datum, bool, is_null_datum}
use Rattle.vx_fn.specs.Functions.{literal, pack, fill_null, is_not_null, truth_type}
use Rattle.vx_dtype.specs.Lists.{IsIn}
use Rattle.vx_tree.specs.Faults.{HasNoFault}
use Rattle.vx_tree.specs.Meaning.{value}
use Rattle.vx_tree.specs.Trees.{BoundTree, node, BoundTrees, no_bound, bound, node_type, WellTyped, Over}

-- a literal truth value
abbrev pub truth_literal : Bool → BoundTree
truth_literal b = node (truth_type false) (literal (truth_type false) (bool b)) no_bound

-- the test that the tree isn't null
abbrev pub not_null_of : BoundTree → BoundTree
not_null_of b = node (truth_type false) is_not_null (bound b no_bound)

-- the second of two children, or the node
abbrev pub fill_of_node : BoundTree → BoundTrees → BoundTree
fill_of_node b (bound x (bound y no_bound)) = y
fill_of_node b _ = b

-- a literal's validity is known, a pack is never null, and a filled value is null where its fill is; all else is tested
abbrev pub validity_of : BoundTree → BoundTree
validity_of (node t (literal u c) bs) = truth_literal (not (is_null_datum c))
validity_of (node t (pack names n) bs) = truth_literal true
validity_of (node t fill_null bs) = not_null_of (fill_of_node (node t fill_null bs) bs)
validity_of b = not_null_of b

-- the second tree is a well-typed truth value, over what the first is over, that faults on no batch on which the first doesn't,
-- and is true there exactly in the rows in which the first isn't null
pub record TellsValidity (b u : BoundTree) : Type 0 where
  pub typed : WellTyped u
  pub type : node_type u ≡ truth_type false
  pub over : (s : LogicalType) → Over b s → Over u s
  pub no_fault : (batch : List Datum) → HasNoFault b batch → HasNoFault u batch
  pub tells : (batch : List Datum) → HasNoFault b batch → (v : Datum) → IsIn v batch → value u v ≡ bool (not (is_null_datum (value b v)))
