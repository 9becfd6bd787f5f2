use Rattle.std.proofs.Common.{◌≡◌, map}
use Rattle.vx_value.specs.StructColumns.{columns_of, rows_in, types_in, EachFit}
use Rattle.vx_value.specs.Views.{type_of}
use Rattle.vx_value.proofs.struct_column.parted.Given as goal

abbrev pub invariant-loop-column : goal.invariant-loop-column
invariant-loop-column l = record {
  typed : map type_of l.types.items ≡ types_in l.yielded;
  taken : columns_of l.values.items ≡ rows_in l.yielded;
  fit : EachFit l.yielded;
}
