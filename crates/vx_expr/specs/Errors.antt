-- What the errors of calls become for a caller of the facade: want of memory is one, whatever call it was of.
use Rattle.vx_dtype.specs.declared.error.VortexError.{VortexError}
use Rattle.vx_dtype.specs.declared.error.VortexError.TheVariants.{OutOfMemory as RefusedMemory}
use Rattle.vx_source_types.specs.declared.error.ParseError.{ParseError}
use Rattle.vx_source_types.specs.declared.error.ParseError.TheVariants.{OutOfMemory as ParseMemory, Unexpected}
use Rattle.vx_source_over.specs.declared.error.OverError.{OverError}
use Rattle.vx_source_over.specs.declared.error.OverError.TheVariants.{OutOfMemory as OverMemory, Unexpected as Unsettled, Misfit}
use Rattle.vx_sql.specs.declared.unsupported.Unsupported.{Unsupported}
use Rattle.vx_sql.specs.declared.unsupported.Unsupported.TheVariants.{OutOfMemory as UnsupportedMemory, Node}
use Rattle.vx_sql_parser.specs.declared.error.SqlError.{SqlError}
use Rattle.vx_sql_parser.specs.declared.error.SqlError.TheVariants.{OutOfMemory as SqlMemory, Unread as UnreadAt, Source}
use Rattle.vx_sql_plan.specs.declared.refusal.NoStatement.{NoStatement}
use Rattle.vx_sql_plan.specs.declared.refusal.NoStatement.TheVariants.{OutOfMemory as StatementMemory, NoColumns, Table, Column}
use Rattle.vx_expr.specs.declared.error.Error.{Error}
use Rattle.vx_expr.specs.declared.error.Error.TheVariants.{OutOfMemory, Refused, Unread, UnreadOver, UnreadSql, NoSql, NoStatement as Stateless}

abbrev pub of_refusal : VortexError → Error
of_refusal RefusedMemory = OutOfMemory
of_refusal refusal = Refused refusal

abbrev pub of_parse_error : ParseError → Error
of_parse_error ParseMemory = OutOfMemory
of_parse_error (Unexpected at expected) = Unread (Unexpected at expected)

abbrev pub of_over_error : OverError → Error
of_over_error OverMemory = OutOfMemory
of_over_error (Unsettled at expected) = UnreadOver (Unsettled at expected)
of_over_error (Misfit start end value dtype) = UnreadOver (Misfit start end value dtype)

abbrev pub of_sql_error : SqlError → Error
of_sql_error SqlMemory = OutOfMemory
of_sql_error (UnreadAt at reason) = UnreadSql (UnreadAt at reason)
of_sql_error (Source error) = UnreadSql (Source error)

abbrev pub of_unsupported : Unsupported → Error
of_unsupported UnsupportedMemory = OutOfMemory
of_unsupported (Node path reason) = NoSql (Node path reason)

abbrev pub of_no_statement : NoStatement → Error
of_no_statement StatementMemory = OutOfMemory
of_no_statement NoColumns = Stateless NoColumns
of_no_statement (Table reason) = Stateless (Table reason)
of_no_statement (Column name reason) = Stateless (Column name reason)
