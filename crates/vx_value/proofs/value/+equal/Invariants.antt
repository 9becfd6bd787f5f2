use Rattle.std.proofs.Common.{◌≡◌, drop}
use Rattle.vx_value.specs.Equality.{equal_data}
use Rattle.vx_value.specs.Views.{data_view}
use Rattle.vx_value.proofs.value.+equal.Given as goal

abbrev pub invariant-equal_all-loop-i : goal.invariant-equal_all-loop-i
invariant-equal_all-loop-i l = equal_data (data_view l.a) (data_view l.b) ≡ equal_data (data_view (drop l.i l.a)) (data_view (drop l.i l.b))
