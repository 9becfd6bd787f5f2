-- What a tree that was split promises.
use Rattle.std.specs.Prelude.{◌≡◌, ℕ, Bool, List, IfSome, IsTrue, Option, Result, Ok, Err, Vec}
use Rattle.std.specs.declared.hash.BuildHasherDefault.{BuildHasherDefault}
use Rattle.std.specs.declared.hash.FoldHasher.{FoldHasher}
use Rattle.std.specs.Borrow.{Bor}
use Rattle.std.specs.Cmp.Lexicographic.{pointwise}
use Rattle.std.specs.HashMap.{HashMap}
use Rattle.std.specs.HashSet.{HashSet, IsUnique}
use Rattle.vx_dtype.specs.declared.error.VortexError.{VortexError}
use Rattle.vx_value.specs.Types.{Name}
use Rattle.vx_tree.specs.Trees.{BoundTree, BoundTrees, node_type, WellTyped, EachWellTyped, Over}
use Rattle.vx_tree.specs.declared.bound.BoundExpression.{BoundExpression}
use Rattle.vx_tree.specs.declared.exact.ExactBoundExpr.{ExactBoundExpr}
use Rattle.vx_rewrite_analysis.specs.Annotated.{reached_from, IsAnnotatedBy}
use Rattle.vx_rewrite_analysis.specs.Covers.{has_single, Covered}
use Rattle.vx_rewrite_analysis.specs.Keys.{key_of, entry_at}
use Rattle.vx_partition_laws.specs.Holes.{recombination}
use Rattle.vx_partition_laws.specs.Items.{struct_type}
use Rattle.vx_partition_laws.specs.Partitions.{partitions, partition_names}
use Rattle.vx_partition_laws.specs.Pieces.{pieces, annotations_of, groups}
use Rattle.vx_partition_laws.specs.Pieces as by_pieces
use Rattle.vx_partition_laws.specs.Recombining.{Recombines, NoOtherFault}
use Rattle.vx_partition.specs.Only.{only_annotation}
use Rattle.vx_partition.specs.Partitioned.{free_names}

-- partitions and root are well typed, the root with the tree's type; and where each scope root is covered, the root
-- is over the struct of the partitions and recombines them, and no other fault is lost
pub record IsPartitioned (covered : Type 0) (names : List Name) (parts : BoundTrees) (root b : BoundTree) : Type 0 where
  pub partitions_typed : EachWellTyped parts
  pub root_typed : WellTyped root
  pub same_type : node_type root ≡ node_type b
  pub over_partitions : covered → Over root (struct_type names parts)
  pub recombines : covered → Recombines parts root b
  pub no_other_fault : covered → NoOtherFault parts root b

-- `only` gives the annotation of a node that has exactly one
module _ {A : Type 0} (eq : A → A → Bool) (text : A → List ℕ) (name : A → Name) (only : BoundTree → Option A) (covered : Type 0) (b : BoundTree) where
  -- the names are free, and names, partitions, annotations and root are those of the tree's pieces
  pub record IsSplit (names : List Name) (parts : BoundTrees) (keys : List A) (root : BoundTree) : Type 0 where
    pub named : free_names (partition_names name (groups eq only b)) ≡ Ok names
    pub packed : parts ≡ partitions text (groups eq only b)
    pub annotated : IsTrue (pointwise eq keys (annotations_of eq (pieces only b)))
    pub holed : root ≡ recombination eq text name only b
    pub partitioned : IsPartitioned covered names parts root b

-- a tree split by its pieces alone, which cover it where each scope root lies at or below one
abbrev pub IsSplitByPieces : {A : Type 0} → (A → A → Bool) → (A → List ℕ) → (A → Name) → (BoundTree → Option A) → BoundTree → List Name → BoundTrees → List A → BoundTree → Type 0
IsSplitByPieces eq text name only b = IsSplit eq text name only (by_pieces.Covered only b) b

-- a tree split by a map
abbrev pub IsSplitBy : {A S Z : Type 0} → (A → A → Bool) → (A → List ℕ) → (A → Name) → HashMap ExactBoundExpr (HashSet A S) Z → BoundTree → List Name → BoundTrees → List A → BoundTree → Type 0
IsSplitBy eq text name m b = IsSplit eq text name (only_annotation m) (Covered (has_single m) b) b

-- a map from the nodes of a tree to sets of annotations
abbrev pub AnnotationMap : Type 0 → Type 0
AnnotationMap A = HashMap ExactBoundExpr (HashSet A (BuildHasherDefault FoldHasher)) (BuildHasherDefault FoldHasher)

-- no set of the map has an annotation twice: so a node has one in the map where by the answers it has one
abbrev pub AreSets : {A : Type 0} → (A → A → Bool) → AnnotationMap A → Type 0
AreSets eq m = (k : ExactBoundExpr) → IfSome (entry_at (key_of k) m) (IsUnique eq)

-- a map of sets that has the nodes that are reached, each with its annotations
abbrev pub IsMapOf : {A Z : Type 0} → (A → A → Bool) → (Bor BoundExpression → Result (Vec A Z) VortexError → Type 0) → BoundTree → AnnotationMap A → Type 0
IsMapOf eq post b m = AreSets eq m × IsAnnotatedBy eq post (reached_from b) m

-- the refusal of the first name that two annotations of the tree's pieces have, by the map
abbrev pub IsTakenBy : {A S Z : Type 0} → (A → A → Bool) → (A → Name) → HashMap ExactBoundExpr (HashSet A S) Z → BoundTree → VortexError → Type 0
IsTakenBy eq name m b y = free_names (partition_names name (groups eq (only_annotation m) b)) ≡ Err y

-- the same by some map that has the closure's answers
abbrev pub IsTakenBySome : {A Z : Type 0} → (A → A → Bool) → (A → Name) → (Bor BoundExpression → Result (Vec A Z) VortexError → Type 0) → BoundTree → VortexError → Type 0
IsTakenBySome {A} eq name post b y = (m : AnnotationMap A) × IsMapOf eq post b m × IsTakenBy eq name m b y
