use Rattle.std.proofs.Common.{◌≡◌, map, take}
use Rattle.vx_value.specs.StructColumns.{types_in, EachFit}
use Rattle.vx_value.specs.Views.{type_of}
use Rattle.vx_example_field_columns.proofs.types_in.Given as goal

abbrev pub invariant-loop-column : goal.invariant-loop-column
invariant-loop-column l = record {
  typed : map type_of l.types.items ≡ types_in (take l.column-index l.columns);
  fit : EachFit (take l.column-index l.columns);
}
