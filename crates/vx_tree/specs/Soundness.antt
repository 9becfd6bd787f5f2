-- What typing promises of values.
use Rattle.std.specs.Prelude.{List}
use Rattle.vx_value.specs.Types.{LogicalType, Datum}
use Rattle.vx_value.specs.Fits.{Fits}
use Rattle.vx_tree.specs.Trees.{BoundTree, node_type, WellTyped, Over}
use Rattle.vx_tree.specs.Meaning.{value}
use Rattle.vx_tree.specs.Faults.{HasNoFault}
use Rattle.vx_dtype.specs.Lists.{IsIn}
use Rattle.vx_value.specs.Fits.{IsBatch}

-- at each row of a batch on which a well-typed tree doesn't fault its value fits its type
abbrev pub TypesAreSound : Type 0
TypesAreSound = (b : BoundTree) (s : LogicalType) (batch : List Datum) → WellTyped b → Over b s → IsBatch s batch → HasNoFault b batch →
    (v : Datum) → IsIn v batch → Fits (value b v) (node_type b)
