use Rattle.std.proofs.Common.{◌≡◌, map, take}
use Rattle.vx_value.specs.Views.{value_of}
use Rattle.vx_eval.specs.Columns.{values_of, item_at}
use Rattle.vx_eval.proofs.fields.items_copied.Given as goal

abbrev pub invariant-loop-i : goal.invariant-loop-i
invariant-loop-i l = values_of l.items.items ≡ map (λ k. item_at k (value_of l.row)) (take l.i l.places)
