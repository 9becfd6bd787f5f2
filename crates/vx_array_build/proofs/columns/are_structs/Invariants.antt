use Rattle.std.proofs.Common.{ℕ, ◌<◌, get_or}
use Rattle.vx_value.specs.Types.{null}
use Rattle.vx_array_build.specs.Filled.{HasItems, rows_lent}
use Rattle.vx_array_build.proofs.columns.are_structs.Given as goal

abbrev pub invariant-loop-i : goal.invariant-loop-i
invariant-loop-i l = (k : ℕ) → k < l.i → HasItems l.count (get_or (rows_lent l.rows) k null)
