use Rattle.std.proofs.Common.{◌≡◌, drop}
use Rattle.vx_value.specs.Views.{type_of, fields_of, fields_view, names_of}
use Rattle.vx_projection.specs.Wanted.{fields_wanted, lent_paths}
use Rattle.vx_projection.proofs.Loops.{behind_wants}
use Rattle.vx_projection.proofs.Sizes.{type_size, fields_size}
use Rattle.vx_projection.proofs.wanted.+along.Given as goal

abbrev pub decreases-wanted_along : goal.decreases-wanted_along
decreases-wanted_along l = type_size (type_of l.dtype.now)

abbrev pub decreases-wanted_of_each : goal.decreases-wanted_of_each
decreases-wanted_of_each l = fields_size (fields_of l.fields.now)

abbrev pub invariant-wanted_of_each-loop-i : goal.invariant-wanted_of_each-loop-i
invariant-wanted_of_each-loop-i l =
    fields_wanted (lent_paths l.fn.paths.items) (fields_of l.fields) ≡ behind_wants l.each.items (fields_wanted (lent_paths l.left.items) (fields_view (drop l.i (names_of l.fields)) (drop l.i l.types)))
