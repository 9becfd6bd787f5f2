use Rattle.std.proofs.Common.{◌≡◌, drop}
use Rattle.vx_value.specs.Views.{data_view}
use Rattle.vx_projection.specs.Wanted.{each_taken, wanted_view}
use Rattle.vx_projection.proofs.Loops.{behind}
use Rattle.vx_projection.proofs.wanted.+taken.Given as goal

abbrev pub invariant-taken_of_each-loop-i : goal.invariant-taken_of_each-loop-i
invariant-taken_of_each-loop-i l = each_taken (wanted_view l.wanted) (data_view l.values) ≡ behind l.made.items (each_taken (wanted_view (drop l.i l.wanted)) (data_view (drop l.i l.values)))
