-- The bytes of an expression that what stops a command over records is told of.
use Rattle.std.specs.Prelude.{◌≡◌}
use Rattle.vx_value.specs.Types.{LogicalType}
use Rattle.vx_source_parser.specs.declared.whole.Placed.{Placed}
use Rattle.vx_command_pages.specs.Spans.{IsRefusalAt, own_span, span_at}
use Rattle.vx_command_pages.specs.declared.report.Span.{Span}
use Rattle.vx_records.specs.declared.error.RecordsError.{RecordsError}
use Rattle.vx_records.specs.declared.error.RecordsError.TheVariants.{OutOfMemory, Data, Fault, Write}
use Rattle.vx_commands.specs.declared.error.RowsError.{RowsError}
use Rattle.vx_commands.specs.declared.error.RowsError.TheVariants.{Query, NotBool, Records}
use Rattle.vx_commands.specs.declared.selected.SelectStop.{SelectStop}
use Rattle.vx_commands.specs.declared.selected.SelectStop.TheVariants.{Condition, Value}

-- those of the node that faults, and of anything else the whole expression's
abbrev pub records_span : Placed → RecordsError → Span
records_span placed (Fault f) = span_at f.path.items placed.places
records_span placed OutOfMemory = own_span placed.places
records_span placed (Data e) = own_span placed.places
records_span placed (Write e) = own_span placed.places

-- a refusal is told of the node that is refused, and what stops going over the records of these bytes
abbrev pub IsToldAt : Placed → LogicalType → RowsError → Type 0
IsToldAt placed s (Query c) = IsRefusalAt placed s c
IsToldAt placed s (NotBool t) = Unit {0}
IsToldAt placed s (Records error span) = span ≡ records_span placed error

-- so of the expression that keeps records, and of what is selected of them
abbrev pub IsSelectToldAt : Placed → Placed → LogicalType → SelectStop → Type 0
IsSelectToldAt placed value s (Condition error) = IsToldAt placed s error
IsSelectToldAt placed value s (Value error) = IsToldAt value s error
