use Rattle.std.proofs.Common.{◌≡◌, map, get_or}
use Rattle.std.specs.List.{range_with_len}
use Rattle.vx_value.specs.Items.{item_at}
use Rattle.vx_value.specs.Types.{null}
use Rattle.vx_value.specs.Views.{value_of}
use Rattle.vx_array.specs.Rows.{lanes_rows}
use Rattle.vx_array.proofs.items.copied_items.Given as goal

abbrev pub invariant-loop-i : goal.invariant-loop-i
invariant-loop-i l = map value_of l.items.items ≡ map (λ k. item_at l.place (get_or (lanes_rows l.lanes) k null)) (range_with_len 0 l.i)
