-- The node that the first fault of a bound tree on a batch is of.
use Rattle.std.specs.Prelude.{◌≡◌, ℕ, zero, suc, List, [], ◌∷◌, Some, None, map}
use Rattle.vx_dtype.specs.declared.error.VortexError.{VortexError}
use Rattle.vx_value.specs.Types.{LogicalType, Datum}
use Rattle.vx_fn.specs.Faults.{node_fault}
use Rattle.vx_fn.specs.Functions.{Function}
use Rattle.vx_tree.specs.Faults.{HasNoFault, each_fault}
use Rattle.vx_tree.specs.Meaning.{values}
use Rattle.vx_tree.specs.Trees.{BoundTree, node, BoundTrees, bound, node_types}

-- on the batch, the node at the path faults over its children's values, and no node of a child does;
-- nor does any node of a child to the left of the path
mutual
  pub data IsFirstFault (batch : List Datum) : BoundTree → List ℕ → VortexError → Type 0 where
    here : {t : LogicalType} {f : Function} {bs : BoundTrees} {fault : VortexError} → each_fault bs batch ≡ None → node_fault f (node_types bs) (map (values bs) batch) ≡ Some fault → IsFirstFault batch (node t f bs) [] fault
    below : {t : LogicalType} {f : Function} {bs : BoundTrees} {i : ℕ} {path : List ℕ} {fault : VortexError} → IsFirstFaultIn batch bs i path fault → IsFirstFault batch (node t f bs) (i ∷ path) fault

  -- the same of the child of that index, where no child before it faults
  pub data IsFirstFaultIn (batch : List Datum) : BoundTrees → ℕ → List ℕ → VortexError → Type 0 where
    this_one : {b : BoundTree} {bs : BoundTrees} {path : List ℕ} {fault : VortexError} → IsFirstFault batch b path fault → IsFirstFaultIn batch (bound b bs) zero path fault
    later_one : {b : BoundTree} {bs : BoundTrees} {i : ℕ} {path : List ℕ} {fault : VortexError} → HasNoFault b batch → IsFirstFaultIn batch bs i path fault → IsFirstFaultIn batch (bound b bs) (suc i) path fault
