-- When one bound tree may stand for another.
use Rattle.std.specs.Prelude.{◌≡◌, List, Ok}
use Rattle.vx_value.specs.Types.{LogicalType, Datum}
use Rattle.vx_value.specs.Joins.{Narrower}
use Rattle.vx_value.specs.Fits.{IsBatch}
use Rattle.vx_fn.specs.Functions.{Function, fn_type}
use Rattle.vx_dtype.specs.Lists.{IsIn}
use Rattle.vx_tree.specs.Trees.{BoundTree, node, BoundTrees, no_bound, bound, node_type, node_types, WellTyped, Over, unbound}
use Rattle.vx_tree.specs.Meaning.{mean, value}
use Rattle.vx_tree.specs.Faults.{HasNoFault}

-- the second tree keeps the first: both are well typed, it is over what the first is over, its type is no wider,
-- and on each batch on which the first doesn't fault it doesn't either, and has the same meaning in every row
pub record Keeps (b u : BoundTree) : Type 0 where
  pub typed_before : WellTyped b
  pub typed_after : WellTyped u
  pub scopes : (s : LogicalType) → Over b s → Over u s
  pub type : Narrower (node_type u) (node_type b)
  pub no_fault : (s : LogicalType) (batch : List Datum) → Over b s → IsBatch s batch → HasNoFault b batch → HasNoFault u batch
  pub meaning : (s : LogicalType) (batch : List Datum) → Over b s → IsBatch s batch → HasNoFault b batch → (v : Datum) → IsIn v batch → value u v ≡ value b v

-- the same, child by child
pub data KeepsEach : BoundTrees → BoundTrees → Type 0 where
  keeps_none : KeepsEach no_bound no_bound
  keeps_more : {b u : BoundTree} {bs us : BoundTrees} → Keeps b u → KeepsEach bs us → KeepsEach (bound b bs) (bound u us)

-- a well-typed tree keeps itself
abbrev pub KeepsIsReflexive : Type 0
KeepsIsReflexive = (b : BoundTree) → WellTyped b → Keeps b b

-- what keeps a tree that keeps another keeps the other
abbrev pub KeepsIsTransitive : Type 0
KeepsIsTransitive = (b u w : BoundTree) → Keeps b u → Keeps u w → Keeps b w

-- what keeps a tree means what the tree's source does, in every row of each batch on which the tree doesn't fault
abbrev pub KeepsTheMeaning : Type 0
KeepsTheMeaning = (b u : BoundTree) → Keeps b u → (s : LogicalType) (batch : List Datum) → Over b s → IsBatch s batch → HasNoFault b batch →
    (v : Datum) → IsIn v batch → mean (unbound u) s v ≡ mean (unbound b) s v

-- a node whose children are replaced is typed anew, and keeps what it was
abbrev pub KeepsUnderNodes : Type 0
KeepsUnderNodes = (t : LogicalType) (f : Function) (bs us : BoundTrees) → WellTyped (node t f bs) → KeepsEach bs us →
    (t' : LogicalType) × (fn_type f (node_types us) ≡ Ok t') × Keeps (node t f bs) (node t' f us)
