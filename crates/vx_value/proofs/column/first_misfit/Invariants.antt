use Rattle.std.proofs.Common.{◌≡◌, ◌+◌, drop, map, option_map}
use Rattle.vx_value.specs.Columns.{first_misfit}
use Rattle.vx_value.specs.Views.{type_of, value_of}
use Rattle.vx_value.proofs.column.first_misfit.Given as goal

abbrev pub invariant-loop-i : goal.invariant-loop-i
invariant-loop-i l =
    first_misfit (type_of l.t) (map value_of l.rows)
    ≡ option_map (λ k. l.i + k) (first_misfit (type_of l.t) (map value_of (drop l.i l.rows)))
