use Rattle.std.proofs.Common.{◌≡◌, take}
use Rattle.std.specs.Prelude.{count_by}
use Rattle.vx_value.specs.Types.{is_null_datum}
use Rattle.vx_array.specs.Rows.{lanes_rows}
use Rattle.vx_array.proofs.lanes.Lanes.null_count.Given as goal

abbrev pub invariant-loop-i : goal.invariant-loop-i
invariant-loop-i l = l.nulls ≡ count_by is_null_datum (take l.i (lanes_rows l.self))
