use Rattle.std.proofs.Common.{◌≡◌, ◌+◌, drop, option_map}
use Rattle.vx_value.specs.Columns.{first_misfit}
use Rattle.vx_value.specs.Views.{type_of}
use Rattle.vx_array.specs.Rows.{lanes_rows}
use Rattle.vx_array.proofs.array.first_misfit.Given as goal

abbrev pub invariant-loop-i : goal.invariant-loop-i
invariant-loop-i l = first_misfit (type_of l.dtype) (lanes_rows l.lanes) ≡ option_map (λ k. l.i + k) (first_misfit (type_of l.dtype) (drop l.i (lanes_rows l.lanes)))
