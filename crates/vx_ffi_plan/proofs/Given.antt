-- A scan keeps its promises for the batch that its reader stands for.
use Rattle.std.proofs.Common.{◌≡◌, List, Option, Result, Ok, Err}
use Rattle.std.specs.Prelude.{◌≢◌, IsErrOf, IfOk}
use Rattle.vx_dtype.specs.declared.error.VortexError.{VortexError}
use Rattle.vx_dtype.specs.declared.error.VortexError.TheVariants.{ScopeMismatch}
use Rattle.vx_dtype.specs.Returns.{ReturnsOrOom}
use Rattle.vx_value.specs.Columns.{Batch}
use Rattle.vx_value.specs.Paths.{Path, minimal_paths}
use Rattle.vx_value.specs.Types.{LogicalType}
use Rattle.vx_tree.specs.Trees.{BoundTree}
use Rattle.vx_query_split.specs.Division.{Parts}
use Rattle.vx_scan.specs.Scans.{HasTypeOf, IsRefusedWhere, KeepsMeaning, Scanned, planned_evaluation}
use Rattle.vx_projection.specs.Kept.{kept_batch}

pub given : (s : LogicalType) (u : BoundTree) (paths : List Path) (split : Option Parts) (batch held : Batch) (r : Result Batch VortexError) → held ≡ batch
    → (held.type ≢ s → IsErrOf r ScopeMismatch) → (held.type ≡ s → ReturnsOrOom (λ c. c) r (planned_evaluation split u (kept_batch (minimal_paths paths) held)))
    → (held.type ≡ s → KeepsMeaning u held r) → (held.type ≡ s → IsRefusedWhere u held r) → (held.type ≡ s → HasTypeOf u r)
    → IfOk r (λ values. Scanned s u paths split batch (Ok values))
given s u paths split batch held (Ok values) same mismatch evaluated meaning faults typed = rw (← same) (record { mismatch = mismatch; evaluated = evaluated; meaning = meaning; faults = faults; typed = typed })
given s u paths split batch held (Err e) same mismatch evaluated meaning faults typed = tt
