-- What a tree's split by the fields of its scope may be asked for.
use Rattle.std.proofs.Common.{◌≡◌, ◌⊎◌, ◌∙◌, inl, inr, Bool, true, false, List, length, Option, Some, Err, rules, sym, true≢false}
use Rattle.std.specs.Cmp.Rules.{comparing}
use Rattle.std.specs.Str.{bytes_eq}
use Rattle.vx_dtype.specs.declared.error.VortexError.{VortexError}
use Rattle.vx_dtype.specs.declared.error.VortexError.TheVariants.{OutOfMemory}
use Rattle.vx_value.specs.Types.{Name, LogicalType}
use Rattle.vx_tree.specs.Trees.{BoundTree, scope, node_types, WellTyped, EachWellTyped, Over}
use Rattle.vx_rewrite_analysis.specs.Covers.{is_covered}
use Rattle.vx_rewrite_analysis.proofs.Covering.{covered-decides}
use Rattle.vx_partition.specs.Partitioned.{free_names}
use Rattle.vx_partition.specs.Splitting.{IsSplitByPieces}
use Rattle.vx_partition.proofs.FreeNames.{names_are_free}
use Rattle.vx_partition_laws.specs.Items.{struct_type}
use Rattle.vx_partition_laws.specs.Partitions.{partition_names}
use Rattle.vx_partition_laws.specs.Pieces.{groups}
use Rattle.vx_partition_laws.specs.Recombining.{Recombines, NoOtherFault}
use Rattle.vx_query_split.specs.Division.{split_names, FieldsCover, Parts, IsSplitOf, divided}
use Rattle.vx_query_split.specs.Reading.{only_field, reads_one}

-- names of fields are never taken: a split by them is refused for memory alone
pub memory_alone : (only : BoundTree → Option Name) (b : BoundTree) (e : VortexError) → (e ≡ OutOfMemory) ⊎ (free_names (partition_names (λ a. a) (groups bytes_eq only b)) ≡ Err e) → e ≡ OutOfMemory
memory_alone only b e (inl m) = m
memory_alone only b e (inr q) = let free = names_are_free (search (comparing, rules)) only b in cc

-- the parts may be evaluated, recombine the tree, and lose no other fault
pub record Sound (u : BoundTree) (p : Parts) : Type 0 where
  pub counted : length p.names ≡ length (node_types p.partitions)
  pub partitions_typed : EachWellTyped p.partitions
  pub root_typed : WellTyped p.root
  pub root_over : Over p.root (struct_type p.names p.partitions)
  pub recombines : Recombines p.partitions p.root u
  pub no_other_fault : NoOtherFault p.partitions p.root u

pub sound : {s : LogicalType} {u : BoundTree} {p : Parts} → IsSplitOf s u (Some p) → Sound u p
sound (divided h cov count split) =
    let q = split.partitioned in
    record { counted = count; partitions_typed = q.partitions_typed; root_typed = q.root_typed; root_over = q.over_partitions cov; recombines = q.recombines cov; no_other_fault = q.no_other_fault cov }

-- a split by the pieces is one by the fields
pub divided_by_pieces : (s : LogicalType) (u : BoundTree) {fields : List Name} (p : Parts) → split_names true s ≡ Some fields → FieldsCover fields u → length p.names ≡ length (node_types p.partitions)
    → IsSplitByPieces bytes_eq (λ a. a) (λ a. a) (only_field fields) u p.names p.partitions p.annotations p.root → IsSplitOf s u (Some p)
divided_by_pieces s u {fields = fields} p h cov count split = divided h cov count split

-- the test of it
pub uncovered : (fields : List Name) (u : BoundTree) (t : Bool) → t ≡ is_covered (reads_one fields) u → t ≡ false → FieldsCover fields u → ⊥
uncovered fields u t is false-t cov = absurd (true≢false (sym ((covered-decides (reads_one fields) u).1 cov) ∙ sym is ∙ false-t))

pub covered_so : (fields : List Name) (u : BoundTree) (t : Bool) → t ≡ is_covered (reads_one fields) u → t ≡ true → FieldsCover fields u
covered_so fields u t is true-t = (covered-decides (reads_one fields) u).0 (sym is ∙ true-t)
