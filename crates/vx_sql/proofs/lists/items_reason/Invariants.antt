use Rattle.std.proofs.Common.{◌≡◌, drop}
use Rattle.vx_value.specs.Views.{type_of, data_view}
use Rattle.vx_sql.specs.Reasons.{items_reason}
use Rattle.vx_sql.proofs.lists.items_reason.Given as goal

abbrev pub invariant-loop-item : goal.invariant-loop-item
invariant-loop-item l = items_reason (type_of l.dtype) (data_view (drop l.item-index l.items)) ≡ items_reason (type_of l.dtype) (data_view l.items)
