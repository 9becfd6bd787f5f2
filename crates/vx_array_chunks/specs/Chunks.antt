-- Chunks that are scanned one after the other.
use Rattle.std.specs.Prelude.{◌≡◌, Option, Some, None, Result, List, Bool, MatchOption}
use Rattle.vx_dtype.specs.declared.error.VortexError.{VortexError}
use Rattle.vx_value.specs.Columns.{Batch}
use Rattle.vx_value.specs.Views.{type_of}
use Rattle.vx_tree.specs.Views.{bound_of}
use Rattle.vx_scan.specs.declared.planned.ScanPlan.{ScanPlan}
use Rattle.vx_prune_tree.specs.Stats.{Facts}
use Rattle.vx_prune.specs.Selected.{Selected}

-- the answer for the chunk that comes, if one does: its rows at which the plan's source is true
abbrev pub AnswersChunk : {C : Type 0} → (C → Facts) → (C → Batch) → ScanPlan → Option C → Option (Result (List Bool) VortexError) → Type 0
AnswersChunk known batch plan None result = result ≡ None
AnswersChunk known batch plan (Some chunk) result = MatchOption result ⊥ (λ rows. Selected (type_of plan.scope) (bound_of plan.tree) (known chunk) (batch chunk) rows)

-- the iterator's next chunk, if there is one, is answered, and the iterator goes on behind it
abbrev pub GivesChunk : {I C : Type 0} → (I → Option C → I → Type 0) → (C → Facts) → (C → Batch) → ScanPlan → I → Option (Result (List Bool) VortexError) → I → Type 0
GivesChunk {C = C} gives known batch plan before result after = (chunk : Option C) × gives before chunk after × AnswersChunk known batch plan chunk result
