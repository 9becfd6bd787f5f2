use Rattle.std.proofs.Common.{◌≡◌, map, take}
use Rattle.vx_value.specs.StructColumns.{EachFit, rows_in, types_in}
use Rattle.vx_value.specs.Views.{type_of}
use Rattle.vx_array.specs.Rows.{lanes_each}
use Rattle.vx_array_build.proofs.structs.parted.Given as goal

abbrev pub invariant-loop-i : goal.invariant-loop-i
invariant-loop-i l = record {
  typed : map type_of l.types.items ≡ types_in (take l.i l.columns);
  taken : lanes_each l.lanes.items ≡ rows_in (take l.i l.columns);
  fit : EachFit (take l.i l.columns);
}
