-- What stops a call that goes over records.
use Rattle.std.specs.Prelude.{◌≡◌, ◌⊎◌, ℕ, List, length, Ok}
use Rattle.vx_command_pages.specs.declared.report.Span.{Span}
use Rattle.vx_value.specs.Views.{type_of}
use Rattle.vx_tree.specs.Trees.{BoundTree, typed}
use Rattle.vx_tree.specs.Views.{tree_of}
use Rattle.vx_data.specs.declared.error.DataError.TheVariants.{OutOfMemory as NoRoomToRead, Read as Unreadable, Unexpected}
use Rattle.vx_data.specs.declared.error.WriteError.TheVariants.{OutOfMemory as NoRoomToWrite, Write as WriterFailed, Unwritable}
use Rattle.vx_records.specs.declared.error.RecordsError.{RecordsError}
use Rattle.vx_records.specs.declared.error.RecordsError.TheVariants.{OutOfMemory as NoRoom, Data, Fault, Write}
use Rattle.vx_records.specs.Outcomes.{IsFaultOn}
use Rattle.vx_records.specs.Records.{Record}
use Rattle.vx_command_pages.specs.declared.error.CommandError.TheVariants.{OutOfMemory as Exhausted}
use Rattle.vx_command_pages.specs.Inputs.{ReadsWhere, IsCommandError}
use Rattle.vx_command_pages.specs.Spans.{span_at}
use Rattle.vx_commands.specs.declared.error.RowsError.{RowsError}
use Rattle.vx_commands.specs.declared.error.RowsError.TheVariants.{Query, NotBool, Records as OfRecords}
pub use Rattle.vx_commands.specs.Rows.{IsBoundTo}
use Rattle.vx_ffi_calls.specs.declared.answer.Place.{Place}
use Rattle.vx_ffi_calls.specs.declared.answer.Status.{Status}
use Rattle.vx_ffi_calls.specs.declared.answer.Status.TheVariants.{OutOfMemory, Refused, Faulted, BadData}
use Rattle.vx_ffi_calls.specs.declared.stop.CallError.{CallError}
use Rattle.vx_ffi_calls.specs.declared.text.Given.TheVariants.{Expression, Schema, Records}
use Rattle.vx_ffi_calls.specs.Stops.{IsExhausted, IsNoText, IsPlaceIn, Tells, text_number}

-- how a call ends that the error stops
abbrev pub error_status : RecordsError → Status
error_status NoRoom = OutOfMemory
error_status (Data NoRoomToRead) = OutOfMemory
error_status (Write NoRoomToWrite) = OutOfMemory
error_status (Fault f) = Faulted
error_status (Data (Unreadable e)) = BadData
error_status (Data (Unexpected line at expected)) = BadData
error_status (Write (WriterFailed e)) = BadData
error_status (Write (Unwritable row at expected)) = BadData

-- the place of a fault is that of the node in the expression, that of any other error is in the records
abbrev pub IsErrorPlace : RecordsError → Span → List ℕ → Place → Type 0
IsErrorPlace (Fault f) span expression place = IsPlaceIn Expression expression span.start span.end place
IsErrorPlace NoRoom span expression place = place.text ≡ text_number Records
IsErrorPlace (Data e) span expression place = place.text ≡ text_number Records
IsErrorPlace (Write e) span expression place = place.text ≡ text_number Records

-- the stop tells where the error in those texts is
abbrev pub TellsRows : RowsError → List ℕ → List ℕ → CallError → Type 0
TellsRows (Query c) expression schema stop = Tells c expression schema stop
TellsRows (NotBool t) expression schema stop = (stop.status ≡ Refused) × IsPlaceIn Expression expression 0 (length expression) stop.place
TellsRows (OfRecords error span) expression schema stop = (stop.status ≡ error_status error) × IsErrorPlace error span expression stop.place

-- the expression, bound to the schema's type, faults so on some records, and the bytes are those that some places of its nodes give the one that faults
abbrev pub FaultsOn : List ℕ → List ℕ → RecordsError → Span → Type 0
FaultsOn expression schema (Fault f) span = ReadsWhere expression schema (λ placed s. (b : BoundTree) × (rs : List Record) × IsBoundTo (tree_of placed.expression) s b × IsFaultOn b rs f × (span ≡ span_at f.path.items placed.places))
FaultsOn expression schema NoRoom span = Unit {0}
FaultsOn expression schema (Data e) span = Unit {0}
FaultsOn expression schema (Write e) span = Unit {0}

-- the error is one of the texts, or the first fault on some records, or tells what else stopped going over them
abbrev pub IsRowsError : List ℕ → List ℕ → RowsError → Type 0
IsRowsError expression schema (Query c) = IsCommandError expression schema c
IsRowsError expression schema (NotBool t) = ⊥
IsRowsError expression schema (OfRecords error span) = FaultsOn expression schema error span

-- the same where truth values are asked for, and the expression isn't evaluated
abbrev pub IsVerdictError : List ℕ → List ℕ → RowsError → Type 0
IsVerdictError expression schema (Query c) = IsCommandError expression schema c
IsVerdictError expression schema (NotBool t) = ReadsWhere expression schema (λ placed s. typed (tree_of placed.expression) s ≡ Ok (type_of t))
IsVerdictError expression schema (OfRecords error span) = Unit {0}

-- the error is none of the expression, or of want of memory
abbrev pub IsStatisticsError : RowsError → Type 0
IsStatisticsError (Query c) = c ≡ Exhausted
IsStatisticsError (NotBool t) = ⊥
IsStatisticsError (OfRecords error span) = Unit {0}

-- a text is no UTF-8, or there is such an error in the texts, or memory ran out
abbrev pub RowsStops : (RowsError → Type 0) → List ℕ → List ℕ → CallError → Type 0
RowsStops IsError expression schema stop = IsExhausted stop
    ⊎ IsNoText Expression expression stop
    ⊎ IsNoText Schema schema stop
    ⊎ ((error : RowsError) × IsError error × TellsRows error expression schema stop)
