-- What a call answers that gives columns in buffers, and what stops it.
use Rattle.std.specs.Prelude.{◌≡◌, ◌⊎◌, ℕ, Bool, List, length, Ok}
use Rattle.vx_value.specs.Columns.{Batch, batch}
use Rattle.vx_array_build.specs.Taken.{rows_where}
use Rattle.vx_array_scan.specs.Selected.{IsSelection}
use Rattle.vx_data_buffers.specs.Laid.{AreBuffersOf}
use Rattle.vx_data_buffers.specs.Rows.{column_said}
use Rattle.vx_ffi_calls.specs.declared.stop.CallError.{CallError}
use Rattle.vx_ffi_plan.specs.declared.kept.KeptPlan.{KeptPlan}
use Rattle.vx_ffi_plan.specs.Frames.{framed}
use Rattle.vx_ffi_plan.specs.Kept.{IsScanOf, planned_tree, scope_of}
use Rattle.vx_ffi_plan.specs.ScanStops.{IsBadData}
use Rattle.vx_ffi_plan.specs.Selections.{SelectStops}

-- the page has the number of the column's rows, and buffers of them
abbrev pub IsColumnOf : Batch → List ℕ → Type 0
IsColumnOf column page = (buffers : List (List ℕ)) × AreBuffersOf column buffers × (page ≡ framed (length column.rows) buffers)

-- the buffers have a batch of so many rows, and the page the column of the values that a scan by the plan gives of it
abbrev pub IsColumnPage : KeptPlan → ℕ → List (List ℕ) → List ℕ → Type 0
IsColumnPage kept rows buffers page = (batch values : Batch) × (column_said buffers (scope_of kept) rows ≡ Ok batch) × IsScanOf kept batch values × IsColumnOf values page

-- the buffers have a batch of so many rows, and the page the column of those at which the plan's tree is true
abbrev pub IsFilteredPage : KeptPlan → ℕ → List (List ℕ) → List ℕ → Type 0
IsFilteredPage kept rows buffers page = (c : Batch) × (found : List Bool) × (column_said buffers (scope_of kept) rows ≡ Ok c) × IsSelection (planned_tree kept) c (Ok found)
    × IsColumnOf (batch c.type (rows_where c.rows found)) page

-- what stops a selection of rows; or they can't be laid out
abbrev pub FilterStops : KeptPlan → ℕ → List (List ℕ) → CallError → Type 0
FilterStops kept rows buffers stop = SelectStops kept rows buffers stop ⊎ IsBadData stop
