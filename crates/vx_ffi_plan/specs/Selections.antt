-- What a call answers that selects rows of a batch, and what stops it.
use Rattle.std.specs.Prelude.{◌≡◌, ◌⊎◌, ℕ, Bool, false, List, Ok, map, if◌then◌else◌}
use Rattle.vx_value.specs.Columns.{Batch}
use Rattle.vx_fn.specs.Functions.{is_truth}
use Rattle.vx_tree.specs.Trees.{node_type}
use Rattle.vx_array_scan.specs.Selected.{IsSelection}
use Rattle.vx_data_buffers.specs.Rows.{column_said}
use Rattle.vx_ffi_calls.specs.declared.answer.Status.TheVariants.{Refused}
use Rattle.vx_ffi_calls.specs.declared.stop.CallError.{CallError}
use Rattle.vx_ffi_calls.specs.Stops.{IsExhausted}
use Rattle.vx_ffi_plan.specs.declared.kept.KeptPlan.{KeptPlan}
use Rattle.vx_ffi_plan.specs.Kept.{planned_tree, scope_of}
use Rattle.vx_ffi_plan.specs.ScanStops.{IsFaultStop, IsNoBatch}

-- a byte for each row: 1 where it is true, else 0
abbrev pub selection : List Bool → List ℕ
selection = map (λ b. if b then 1 else 0)

-- the buffers have a batch of so many rows, and the page has a byte for each, which is 1 where the plan's tree is true
abbrev pub IsSelectPage : KeptPlan → ℕ → List (List ℕ) → List ℕ → Type 0
IsSelectPage kept rows buffers page = (batch : Batch) × (found : List Bool) × (column_said buffers (scope_of kept) rows ≡ Ok batch) × IsSelection (planned_tree kept) batch (Ok found) × (page ≡ selection found)

-- the expression isn't one of truth values
abbrev pub IsNoCondition : KeptPlan → CallError → Type 0
IsNoCondition kept stop = (stop.status ≡ Refused) × (is_truth (node_type (planned_tree kept)) ≡ false)

-- memory ran out; or the expression isn't one of truth values; or the buffers have no batch, or one on which the expression faults
abbrev pub SelectStops : KeptPlan → ℕ → List (List ℕ) → CallError → Type 0
SelectStops kept rows buffers stop = IsExhausted stop ⊎ IsNoCondition kept stop ⊎ IsNoBatch kept rows buffers stop
    ⊎ ((batch : Batch) × (column_said buffers (scope_of kept) rows ≡ Ok batch) × IsFaultStop kept batch stop)
