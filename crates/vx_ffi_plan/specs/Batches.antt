-- What a call answers of a batch, by what is asked, and what stops it.
use Rattle.std.specs.Prelude.{ℕ, List}
use Rattle.vx_ffi_calls.specs.declared.stop.CallError.{CallError}
use Rattle.vx_ffi_plan.specs.declared.batch.Asked.{Asked}
use Rattle.vx_ffi_plan.specs.declared.batch.Asked.TheVariants.{Values, Rows, Column, Filtered}
use Rattle.vx_ffi_plan.specs.declared.kept.KeptPlan.{KeptPlan}
use Rattle.vx_ffi_plan.specs.Columns.{FilterStops, IsColumnPage, IsFilteredPage}
use Rattle.vx_ffi_plan.specs.Kept.{IsScanPage}
use Rattle.vx_ffi_plan.specs.ScanStops.{ScanStops}
use Rattle.vx_ffi_plan.specs.Selections.{IsSelectPage, SelectStops}

-- the page of a call on a plan
abbrev pub IsBatchPage : Asked → KeptPlan → ℕ → List (List ℕ) → List ℕ → Type 0
IsBatchPage Values = IsScanPage
IsBatchPage Rows = IsSelectPage
IsBatchPage Column = IsColumnPage
IsBatchPage Filtered = IsFilteredPage

-- what stops it
abbrev pub BatchStops : Asked → KeptPlan → ℕ → List (List ℕ) → CallError → Type 0
BatchStops Values = ScanStops
BatchStops Rows = SelectStops
BatchStops Column = ScanStops
BatchStops Filtered = FilterStops
