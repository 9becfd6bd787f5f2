use Rattle.std.proofs.Common.{◌≡◌, ℕ, ◌+◌, ◌*◌, List, ◌++◌}
use Rattle.std.specs.Fmt.{HasWritten, IsPlainFormatter}
use Rattle.vx_dtype.proofs.Commas.{behind}
use Rattle.vx_value.specs.Fields.{data_of}
use Rattle.vx_value.specs.StructColumns.{row_at}
use Rattle.vx_value.specs.Texts.{with_commas}
use Rattle.vx_value.specs.ValueTexts.{row_texts}
use Rattle.vx_value.specs.Views.{fields_of}
use Rattle.vx_array.specs.Rows.{lanes_each}
use Rattle.vx_array.proofs.Counts.{counts, lanes_count}
use Rattle.vx_array.proofs.Written.{fields_from}
use Rattle.vx_array.proofs.texts.+texts.Given as goal

abbrev pub invariant-write_fields-loop-i : goal.invariant-write_fields-loop-i
invariant-write_fields-loop-i g l =
    IsPlainFormatter l.initial.f →
    (done : List ℕ) × HasWritten g.W.Write.write_str_gives l.initial.f done l.f
    × (done ++ behind l.i (fields_from l.i l.names (row_at l.row (lanes_each l.lanes)) l.types) ≡ with_commas (row_texts (data_of (row_at l.row (lanes_each l.lanes))) (fields_of l.fields)))

abbrev pub decreases-write_row : goal.decreases-write_row
decreases-write_row g l = 5 * lanes_count l.lanes.now

abbrev pub decreases-write_struct_row : goal.decreases-write_struct_row
decreases-write_struct_row g l = 5 * counts l.lanes.now + 4

abbrev pub decreases-write_struct : goal.decreases-write_struct
decreases-write_struct g l = 5 * counts l.lanes.now + 3

abbrev pub decreases-write_fields : goal.decreases-write_fields
decreases-write_fields g l = 5 * counts l.lanes.now + 2

abbrev pub decreases-write_named : goal.decreases-write_named
decreases-write_named g l = 5 * lanes_count l.lanes.now + 1
