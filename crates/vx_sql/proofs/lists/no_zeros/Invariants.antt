use Rattle.std.proofs.Common.{◌≡◌, drop}
use Rattle.vx_value.specs.Views.{data_view}
use Rattle.vx_sql.specs.Lists.{no_zeros}
use Rattle.vx_sql.proofs.lists.no_zeros.Given as goal

abbrev pub invariant-loop-item : goal.invariant-loop-item
invariant-loop-item l = no_zeros (data_view (drop l.item-index l.items)) ≡ no_zeros (data_view l.items)
