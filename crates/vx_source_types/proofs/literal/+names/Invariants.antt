use Rattle.std.proofs.Common.{◌≡◌, drop}
use Rattle.vx_value.specs.Views.{type_of, fields_view, fields_of, data_view}
use Rattle.vx_source_types.specs.Literals.{items_left, row_left}
use Rattle.vx_source_types.proofs.literal.+names.Given as goal

abbrev pub invariant-items_left-loop-i : goal.invariant-items_left-loop-i
invariant-items_left-loop-i l = items_left (data_view (drop l.i l.items)) (type_of l.t) l.left ≡ items_left (data_view l.items) (type_of l.t) l.names

abbrev pub invariant-row_left-loop-i : goal.invariant-row_left-loop-i
invariant-row_left-loop-i l =
    row_left (data_view (drop l.i l.items)) (fields_view (drop l.i l.known) (drop l.i l.types)) l.left ≡ row_left (data_view l.items) (fields_of l.fields) l.names
