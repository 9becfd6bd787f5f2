-- Which node faults on a batch, and in which row.
use Rattle.std.specs.Prelude.{◌≡◌, List, Option, None, map}
use Rattle.std.specs.Option.{option_or}
use Rattle.vx_value.specs.Types.{Datum}
use Rattle.vx_dtype.specs.declared.error.VortexError.{VortexError}
use Rattle.vx_fn.specs.Faults.{node_fault}
use Rattle.vx_tree.specs.Meaning.{values}
use Rattle.vx_tree.specs.Trees.{BoundTree, scope, node, BoundTrees, no_bound, bound, node_types}

-- the first fault on a batch: the children's from left to right, then the node's
abbrev mutual
  pub first_fault : BoundTree → List Datum → Option VortexError
  first_fault (scope t) batch = None
  first_fault (node t f bs) batch = option_or (each_fault bs batch) (node_fault f (node_types bs) (map (values bs) batch))

  pub each_fault : BoundTrees → List Datum → Option VortexError
  each_fault no_bound batch = None
  each_fault (bound b bs) batch = option_or (first_fault b batch) (each_fault bs batch)

-- no node faults on the batch
abbrev pub HasNoFault : BoundTree → List Datum → Type 0
HasNoFault b batch = first_fault b batch ≡ None
