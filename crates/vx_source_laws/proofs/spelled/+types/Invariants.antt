use Rattle.std.proofs.Common.{◌+◌, ◌*◌, drop}
use Rattle.vx_dtype.specs.Views.{type_of, fields_of, fields_view}
use Rattle.vx_source_types.specs.TypePrintable.{ArePrintable, type_nesting, fields_nesting}
use Rattle.vx_source_laws.proofs.spelled.+types.Given as goal

abbrev pub decreases-type_is_spelled : goal.decreases-type_is_spelled
decreases-type_is_spelled l = 2 * type_nesting (type_of l.t.now)

abbrev pub decreases-fields_are_spelled : goal.decreases-fields_are_spelled
decreases-fields_are_spelled l = 2 * fields_nesting (fields_of l.fields.now) + 1

-- what is left of the fields is all that is left to show
abbrev pub invariant-fields_are_spelled-loop-i : goal.invariant-fields_are_spelled-loop-i
invariant-fields_are_spelled-loop-i l = ArePrintable (fields_view (drop l.i l.names) (drop l.i l.types)) → ArePrintable (fields_of l.fields)
