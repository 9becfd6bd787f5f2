use Rattle.std.proofs.Common.{◌≡◌, take}
use Rattle.vx_ffi_calls.specs.RowPages.{lines_of}
use Rattle.vx_ffi_calls.proofs.columns.Columns.lines.Given as goal

abbrev pub invariant-loop-column : goal.invariant-loop-column
invariant-loop-column l = l.lines.items ≡ lines_of (take l.column-index l.column-items)
