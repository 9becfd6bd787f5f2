-- What stops going over records, of what the texts are read as, is an error of a call that is given them.
use Rattle.std.proofs.Common.{◌≡◌, ℕ, List, Option}
use Rattle.vx_value.specs.Types.{Datum, LogicalType}
use Rattle.vx_source_parser.specs.Placed.{tree_in}
use Rattle.vx_source_parser.specs.declared.whole.Placed.{Placed}
use Rattle.vx_records.specs.Reading.{Reading}
use Rattle.vx_records.specs.declared.error.RecordsError.TheVariants.{OutOfMemory, Data, Fault, Write}
use Rattle.vx_command_pages.specs.Inputs.{ReadsAs, ReadsType}
use Rattle.vx_command_pages.proofs.Told.{told}
use Rattle.vx_commands.specs.Rows.{IsMeantUntil, IsNoCondition}
use Rattle.vx_commands.specs.Spans.{IsToldAt}
use Rattle.vx_commands.specs.declared.error.RowsError.{RowsError}
use Rattle.vx_commands.specs.declared.error.RowsError.TheVariants.{Query, NotBool, Records}
use Rattle.vx_ffi_calls.specs.RowStops.{IsRowsError, IsVerdictError}

-- where values are asked for
pub rows_error : {R : Type 0} (leaves : R → List Reading → Type 0) (text schema : List ℕ) (placed : Placed) (s : LogicalType) (error : RowsError) (before : R) (old new : Option (List Datum))
    → ReadsAs text s (tree_in placed) → ReadsType schema s → IsMeantUntil leaves s (tree_in placed) error before old new → IsToldAt placed s error → IsRowsError text schema error
rows_error leaves text schema placed s (Query c) before old new reads typed until place = told text schema placed s c reads typed until.0 place
rows_error leaves text schema placed s (NotBool t) before old new reads typed until place = absurd until
rows_error leaves text schema placed s (Records (Fault f) span) before old new reads typed (b, bound, (mid, done, rs, read, wrote, fault)) place = (placed, s, reads, typed, (b, rs, bound, fault, place))
rows_error leaves text schema placed s (Records OutOfMemory span) before old new reads typed until place = tt
rows_error leaves text schema placed s (Records (Data e) span) before old new reads typed until place = tt
rows_error leaves text schema placed s (Records (Write e) span) before old new reads typed until place = tt

-- where truth values are asked for
pub verdict_error : (text schema : List ℕ) (placed : Placed) (s : LogicalType) (error : RowsError)
    → ReadsAs text s (tree_in placed) → ReadsType schema s → IsNoCondition (tree_in placed) s error → IsToldAt placed s error → IsVerdictError text schema error
verdict_error text schema placed s (Query c) reads typed is place = told text schema placed s c reads typed is place
verdict_error text schema placed s (NotBool t) reads typed is place = (placed, s, reads, typed, is)
verdict_error text schema placed s (Records error span) reads typed is place = tt
