-- What stops a scan.
use Rattle.std.specs.Prelude.{◌≡◌, ◌⊎◌, ℕ, List, Ok, Err, string_bytes}
use Rattle.vx_dtype.specs.declared.error.VortexError.{VortexError}
use Rattle.vx_value.specs.Columns.{Batch}
use Rattle.vx_tree.specs.Trees.{BoundTree}
use Rattle.vx_command_pages.specs.Spans.{span_at}
use Rattle.vx_command_pages.specs.declared.report.Span.{Span}
use Rattle.vx_places.specs.Faults.{IsFirstFault}
use Rattle.vx_data_buffers.specs.declared.error.BufferError.{BufferError}
use Rattle.vx_data_buffers.specs.Rows.{column_said}
use Rattle.vx_ffi_calls.specs.declared.answer.Place.{Place}
use Rattle.vx_ffi_calls.specs.declared.answer.Status.TheVariants.{Faulted, BadData}
use Rattle.vx_ffi_calls.specs.declared.stop.CallError.{CallError}
use Rattle.vx_ffi_calls.specs.declared.text.Given.TheVariants.{Expression, Records}
use Rattle.vx_ffi_calls.specs.RowStops.{IsBoundTo}
use Rattle.vx_ffi_calls.specs.Stops.{IsExhausted, IsPlaceIn, text_number}
use Rattle.vx_ffi_plan.specs.declared.kept.KeptPlan.{KeptPlan}
use Rattle.vx_ffi_plan.specs.Kept.{scope_of, source_of}

-- the bytes that the node at the path was read from
abbrev pub node_span : KeptPlan → List ℕ → Span
node_span kept path = span_at path kept.placed.value.places

-- the batch or its answer is no data
abbrev pub IsBadData : CallError → Type 0
IsBadData stop = (stop.status ≡ BadData) × (stop.place.text ≡ text_number Records)

-- the buffers have no batch of so many rows
abbrev pub IsNoBatch : KeptPlan → ℕ → List (List ℕ) → CallError → Type 0
IsNoBatch kept rows buffers stop = IsBadData stop × ((error : BufferError) × (column_said buffers (scope_of kept) rows ≡ Err error))

-- the place is of the bytes that the node at the path was read from, or, where it was read from none of its own, of its nearest node above that was
abbrev pub IsNodePlace : KeptPlan → List ℕ → Place → Type 0
IsNodePlace kept path place = IsPlaceIn Expression (string_bytes kept.text) (node_span kept path).start (node_span kept path).end place

-- the stop is of the expression's first fault on the batch, with the bytes of the node that faults
abbrev pub IsFaultStop : KeptPlan → Batch → CallError → Type 0
IsFaultStop kept batch stop = (b : BoundTree) × (path : List ℕ) × (fault : VortexError) × IsBoundTo (source_of kept) (scope_of kept) b
    × IsFirstFault batch.rows b path fault × (stop.status ≡ Faulted) × IsNodePlace kept path stop.place

-- memory ran out; or the buffers have no batch; or they have one on which the expression faults, or of which what is answered can't be written
abbrev pub ScanStops : KeptPlan → ℕ → List (List ℕ) → CallError → Type 0
ScanStops kept rows buffers stop = IsExhausted stop ⊎ IsNoBatch kept rows buffers stop
    ⊎ ((batch : Batch) × (column_said buffers (scope_of kept) rows ≡ Ok batch) × (IsFaultStop kept batch stop ⊎ IsBadData stop))
