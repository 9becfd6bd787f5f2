-- What the partitions of a tree and the tree that puts them together promise.
use Rattle.std.specs.Prelude.{◌≡◌, ℕ, Bool, List, Option, None, map}
use Rattle.vx_value.specs.Types.{Name, LogicalType, Datum}
use Rattle.vx_value.specs.Fits.{IsBatch}
use Rattle.vx_dtype.specs.Lists.{IsIn}
use Rattle.vx_tree.specs.Trees.{BoundTree, BoundTrees, node_type, WellTyped, EachWellTyped, Over, EachOver}
use Rattle.vx_tree.specs.Meaning.{value}
use Rattle.vx_tree.specs.Faults.{HasNoFault, each_fault}
use Rattle.vx_partition_laws.specs.Items.{joined}
use Rattle.vx_partition_laws.specs.Pieces.{Covered, groups}
use Rattle.vx_partition_laws.specs.Partitions.{Distinct, IsShared, AllShort, partitions, partition_names, partitioned_type}
use Rattle.vx_partition_laws.specs.Holes.{recombination}

-- the partitions are over what the tree is over; on each batch on which it doesn't fault none of them does;
-- and over the rows that their values make the root doesn't fault either, and has the tree's meaning in every row
pub record Recombines (parts : BoundTrees) (root b : BoundTree) : Type 0 where
  pub scopes : (s : LogicalType) → Over b s → EachOver parts s
  pub no_part_faults : (s : LogicalType) (batch : List Datum) → Over b s → IsBatch s batch → HasNoFault b batch → each_fault parts batch ≡ None
  pub no_fault : (s : LogicalType) (batch : List Datum) → Over b s → IsBatch s batch → HasNoFault b batch → HasNoFault root (map (joined parts) batch)
  pub meaning : (s : LogicalType) (batch : List Datum) → Over b s → IsBatch s batch → HasNoFault b batch → (v : Datum) → IsIn v batch → value root (joined parts v) ≡ value b v

-- where no partition faults, and the root doesn't over the rows that their values make, the tree doesn't
abbrev pub NoOtherFault : BoundTrees → BoundTree → BoundTree → Type 0
NoOtherFault parts root b = (batch : List Datum) → each_fault parts batch ≡ None → HasNoFault root (map (joined parts) batch) → HasNoFault b batch

module _ {A : Type 0} (eq : A → A → Bool) (text : A → List ℕ) (name : A → Name) where
  -- partitions and root are well typed, the root with the tree's type; and where each scope root is covered,
  -- the root is over the partitions' struct type and recombines them, and no other fault is lost
  pub record IsSplit (only : BoundTree → Option A) (b : BoundTree) : Type 0 where
    pub partitions_typed : EachWellTyped (partitions text (groups eq only b))
    pub root_typed : WellTyped (recombination eq text name only b)
    pub same_type : node_type (recombination eq text name only b) ≡ node_type b
    pub over_partitions : Covered only b → Over (recombination eq text name only b) (partitioned_type text name (groups eq only b))
    pub recombines : Covered only b → Recombines (partitions text (groups eq only b)) (recombination eq text name only b) b
    pub no_other_fault : Covered only b → NoOtherFault (partitions text (groups eq only b)) (recombination eq text name only b) b

-- every map splits every well-typed tree, where the names of its partitions differ, and the text and the name
-- are the same for equal annotations
abbrev pub SplitsRecombine : {A : Type 0} → (A → A → Bool) → Type 0
SplitsRecombine {A = A} eq = (text : A → List ℕ) (name : A → Name) → IsShared eq text → IsShared eq name →
    (only : BoundTree → Option A) (b : BoundTree) → WellTyped b → Distinct (partition_names name (groups eq only b)) → AllShort (groups eq only b) →
    IsSplit eq text name only b
