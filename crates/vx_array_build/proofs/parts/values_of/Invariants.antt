use Rattle.std.proofs.Common.{◌≡◌, map, take}
use Rattle.vx_value.specs.StructColumns.{EachFit}
use Rattle.vx_value.specs.Views.{value_of}
use Rattle.vx_array_build.specs.Parts.{rows_of_parts}
use Rattle.vx_array_build.proofs.parts.values_of.Given as goal

abbrev pub invariant-loop-i : goal.invariant-loop-i
invariant-loop-i l = record {
  joined : map value_of l.values.items ≡ rows_of_parts (take l.i l.parts);
  fit : EachFit (take l.i l.parts);
}
