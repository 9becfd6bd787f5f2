-- What a scan answers.
use Rattle.std.specs.Prelude.{◌≡◌, ◌≢◌, List, Option, Some, None, Result, MatchResult, IsErrOf}
use Rattle.vx_dtype.specs.declared.error.VortexError.{VortexError}
use Rattle.vx_dtype.specs.declared.error.VortexError.TheVariants.{OutOfMemory, ScopeMismatch}
use Rattle.vx_dtype.specs.Returns.{ReturnsOrOom}
use Rattle.vx_value.specs.Columns.{Batch}
use Rattle.vx_value.specs.Paths.{Path, minimal_paths}
use Rattle.vx_value.specs.Types.{LogicalType}
use Rattle.vx_tree.specs.Faults.{HasNoFault}
use Rattle.vx_tree.specs.Trees.{Tree, BoundTree, node_type}
use Rattle.vx_rewrite_core.specs.Keeps.{Keeps}
use Rattle.vx_eval.specs.Evaluation.{evaluation}
use Rattle.vx_projection.specs.Kept.{kept_batch}
use Rattle.vx_query_split.specs.Division.{Parts}
use Rattle.vx_query_split.specs.Sources.{IsBound, IsMeantBy}
use Rattle.vx_query_split.specs.Splits.{split_evaluation}

-- what the tree gives over the batch: by its split, if there is one, else whole
abbrev pub planned_evaluation : Option Parts → BoundTree → Batch → Result Batch VortexError
planned_evaluation None u c = evaluation u c
planned_evaluation (Some p) u c = split_evaluation p.names p.partitions p.root c

-- for each source that the tree u keeps, bound, and that doesn't fault on the batch, the source's meaning in each row
abbrev pub KeepsMeaning : BoundTree → Batch → Result Batch VortexError → Type 0
KeepsMeaning u c result = (e : Tree) (b : BoundTree) → IsBound e c.type b → Keeps b u → HasNoFault b c.rows → IsMeantBy e c result

-- a column where the tree doesn't fault on the batch, unless memory ran out, and none where it does
abbrev pub IsRefusedWhere : BoundTree → Batch → Result Batch VortexError → Type 0
IsRefusedWhere u c result = (HasNoFault u c.rows → MatchResult result (λ x. Unit {0}) (λ y. y ≡ OutOfMemory)) × MatchResult result (λ x. HasNoFault u c.rows) (λ y. Unit {0})

-- a column, where there is one, of the tree's type
abbrev pub HasTypeOf : BoundTree → Result Batch VortexError → Type 0
HasTypeOf u result = MatchResult result (λ x. x.type ≡ node_type u) (λ y. Unit {0})

-- all that a scan promises of its answer, over a batch that a reader stands for
pub record Scanned (s : LogicalType) (u : BoundTree) (paths : List Path) (split : Option Parts) (c : Batch) (r : Result Batch VortexError) : Type 0 where
  pub mismatch : c.type ≢ s → IsErrOf r ScopeMismatch
  pub evaluated : c.type ≡ s → ReturnsOrOom (λ x. x) r (planned_evaluation split u (kept_batch (minimal_paths paths) c))
  pub meaning : c.type ≡ s → KeepsMeaning u c r
  pub faults : c.type ≡ s → IsRefusedWhere u c r
  pub typed : c.type ≡ s → HasTypeOf u r
