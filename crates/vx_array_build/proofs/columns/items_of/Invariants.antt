use Rattle.std.proofs.Common.{◌≡◌, map, take}
use Rattle.vx_value.specs.Items.{item_at}
use Rattle.vx_array_build.specs.Filled.{rows_lent}
use Rattle.vx_array_build.proofs.columns.items_of.Given as goal

abbrev pub invariant-loop-i : goal.invariant-loop-i
invariant-loop-i l = rows_lent l.items.items ≡ map (item_at l.j) (take l.i (rows_lent l.rows))
