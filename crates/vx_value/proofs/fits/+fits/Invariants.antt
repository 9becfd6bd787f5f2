use Rattle.std.proofs.Common.{◌≡◌, drop}
use Rattle.vx_value.specs.Fits.{each_fits, fields_fit}
use Rattle.vx_value.specs.Views.{type_of, fields_view, fields_of, names_of, data_view}
use Rattle.vx_value.proofs.fits.+fits.Given as goal

abbrev pub invariant-each_fits-loop-i : goal.invariant-each_fits-loop-i
invariant-each_fits-loop-i l = each_fits (data_view l.values) (type_of l.t) ≡ each_fits (data_view (drop l.i l.values)) (type_of l.t)

abbrev pub invariant-fields_fit-loop-i : goal.invariant-fields_fit-loop-i
invariant-fields_fit-loop-i l =
    fields_fit (data_view l.values) (fields_of l.fields)
    ≡ fields_fit (data_view (drop l.i l.values)) (fields_view (drop l.i (names_of l.fields)) (drop l.i l.types))
