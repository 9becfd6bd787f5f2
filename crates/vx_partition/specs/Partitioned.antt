-- A partitioned tree, its text, and the name that is taken twice.
use Rattle.std.specs.Prelude.{◌≡◌, ℕ, List, [], ◌∷◌, ◌++◌, length, Option, Some, None, Result, Ok, Err, if◌then◌else◌, codes}
use Rattle.std.specs.List.{list_any}
use Rattle.std.specs.Str.{bytes_eq}
use Rattle.vx_dtype.specs.declared.error.VortexError.{VortexError}
use Rattle.vx_dtype.specs.declared.error.VortexError.TheVariants.{PartitionNameTaken}
use Rattle.vx_value.specs.Types.{Name}
use Rattle.vx_fn.specs.Texts.{with_commas, named_texts}
use Rattle.vx_tree.specs.declared.bound.BoundExpression.{BoundExpression}
use Rattle.vx_tree.specs.Texts.{sql, sqls, texts}
use Rattle.vx_tree.specs.Trees.{Tree, Trees, BoundTree, BoundTrees, unbound, node_type, WellTyped, Over}
use Rattle.vx_value.specs.Types.{LogicalType}
use Rattle.vx_value.specs.Joins.{Narrower}
use Rattle.vx_tree.specs.Views.{bound_of}
use Rattle.vx_partition_laws.specs.Partitions.{partition_names}
use Rattle.vx_partition_laws.specs.Pieces.{pieces, annotations_of, groups}
use Rattle.vx_partition_laws.specs.Recombining.{Recombines}

-- the first name that stands a second time, where `before` has the names to its left
abbrev pub first_taken : List Name → List Name → Option Name
first_taken before [] = None
first_taken before (a ∷ names) = if list_any (bytes_eq a) before then Some a else first_taken (before ++ a ∷ []) names

-- the names where none stands twice, else the first that does
abbrev pub unless_taken : Option Name → List Name → Result (List Name) VortexError
unless_taken None names = Ok names
unless_taken (Some a) names = Err (PartitionNameTaken a)

-- the names of partitions, or the refusal of the first that is taken
abbrev pub free_names : List Name → Result (List Name) VortexError
free_names names = unless_taken (first_taken [] names) names

-- names that annotate themselves are free: each annotation is the name of its partition
abbrev pub NamesAreFree : Type 0
NamesAreFree = (only : BoundTree → Option Name) (b : BoundTree) → free_names (partition_names (λ a. a) (groups bytes_eq only b)) ≡ Ok (annotations_of bytes_eq (pieces only b))

-- names, annotations and partitions are equally many
abbrev pub EquallyMany : {A P : Type 0} → List Name → List A → List P → Type 0
EquallyMany names annotations partitions = (length names ≡ length partitions) × (length annotations ≡ length partitions)

-- the texts of bound trees
abbrev pub texts_of : List BoundExpression → List (List ℕ)
texts_of bs = texts (λ b. unbound (bound_of b)) bs

-- the root's text, and each partition's behind its name
abbrev pub partitioned_text : Tree → List Name → Trees → List ℕ
partitioned_text e names parts = codes "root: " ++ (sql e ++ (codes " {" ++ (with_commas (named_texts names (sqls parts)) ++ codes "}")))

-- the source of a root, bound to the type s
pub record IsBoundAgain (root : BoundTree) (s : LogicalType) (again : BoundTree) : Type 0 where
  pub source : unbound again ≡ unbound root
  pub well_typed : WellTyped again
  pub over : Over again s

-- the root over the new partitions has no wider type, and recombines what the old one did
pub record StillRecombines (old new : BoundTrees) (root again : BoundTree) : Type 0 where
  pub type : Narrower (node_type again) (node_type root)
  pub recombines : (b : BoundTree) → Recombines old root b → Recombines new again b
