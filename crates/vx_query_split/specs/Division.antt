-- How a tree is split by the fields of its scope.
use Rattle.std.specs.Prelude.{◌≡◌, ℕ, Bool, true, false, List, length, Option, Some, None}
use Rattle.std.specs.Option.{option_map}
use Rattle.std.specs.Str.{bytes_eq}
use Rattle.vx_value.specs.Fields.{field_names}
use Rattle.vx_value.specs.Types.{Name, LogicalType, struct_fields}
use Rattle.vx_tree.specs.Trees.{BoundTree, BoundTrees, node_types}
use Rattle.vx_tree.specs.Views.{bound_of, bounds_of}
use Rattle.vx_rewrite_analysis.specs.Covers.{Covered}
use Rattle.vx_partition.specs.Splitting.{IsSplit}
use Rattle.vx_query_split.specs.Reading.{only_field, reads_one}
use Rattle.vx_partition.specs.declared.partitioned.BoundPartitionedExpr.{BoundPartitionedExpr}

-- the names of the scope's fields, where it is a struct and the tree is to be split
abbrev pub split_names : Bool → LogicalType → Option (List Name)
split_names true s = option_map field_names (struct_fields s)
split_names false s = None

-- each scope root of u lies at or below a node that reads just one field
abbrev pub FieldsCover : List Name → BoundTree → Type 0
FieldsCover fields u = Covered (reads_one fields) u

-- u is split into these parts: a partition for each field, of what reads it alone
abbrev pub IsSplitByFields : List Name → BoundTree → List Name → BoundTrees → List Name → BoundTree → Type 0
IsSplitByFields fields u = IsSplit bytes_eq (λ a. a) (λ a. a) (only_field fields) (FieldsCover fields u) u

-- a split as its parts: the names, the partitions, their annotations and the root
pub record Parts : Type 0 where
  pub names : List Name
  pub partitions : BoundTrees
  pub annotations : List Name
  pub root : BoundTree

-- those of a partitioned tree
abbrev pub parts_of : Option (BoundPartitionedExpr (List ℕ)) → Option Parts
parts_of o = option_map (λ p. record { names = p.partition_names; partitions = bounds_of p.partitions.items; annotations = p.partition_annotations.items; root = bound_of p.root }) o

-- the split of the tree u by the fields of the scope that its nodes read, which is there exactly where the scope is a struct and these cover the tree;
-- it has a name for each partition
pub data IsSplitOf (s : LogicalType) (u : BoundTree) : Option Parts → Type 0 where
  no_fields : split_names true s ≡ None → IsSplitOf s u None
  not_covered : {fields : List Name} → split_names true s ≡ Some fields → (FieldsCover fields u → ⊥) → IsSplitOf s u None
  divided : {fields : List Name} {p : Parts} → split_names true s ≡ Some fields → FieldsCover fields u → length p.names ≡ length (node_types p.partitions) →
      IsSplitByFields fields u p.names p.partitions p.annotations p.root → IsSplitOf s u (Some p)
