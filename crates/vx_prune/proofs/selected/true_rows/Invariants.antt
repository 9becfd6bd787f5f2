use Rattle.std.proofs.Common.{◌≡◌, map, take}
use Rattle.vx_fn.specs.Values.{is_true}
use Rattle.vx_value.specs.Views.{value_of}
use Rattle.vx_prune.proofs.selected.true_rows.Given as goal

abbrev pub invariant-loop-row : goal.invariant-loop-row
invariant-loop-row l = l.bits.items ≡ map is_true (map value_of (take l.row-index l.rows))
