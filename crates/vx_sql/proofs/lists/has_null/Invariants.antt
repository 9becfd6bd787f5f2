use Rattle.std.proofs.Common.{◌≡◌, drop}
use Rattle.vx_value.specs.Views.{data_view}
use Rattle.vx_fn.specs.Values.{has_null}
use Rattle.vx_sql.proofs.lists.has_null.Given as goal

abbrev pub invariant-loop-item : goal.invariant-loop-item
invariant-loop-item l = has_null (data_view (drop l.item-index l.items)) ≡ has_null (data_view l.items)
