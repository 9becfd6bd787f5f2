use Rattle.std.proofs.Common.{◌≡◌, take}
use Rattle.std.proofs.Math.ListN.{replicate}
use Rattle.vx_value.specs.StructColumns.{EachFit}
use Rattle.vx_value.specs.Views.{value_of}
use Rattle.vx_array_build.specs.Parts.{rows_of_parts}
use Rattle.vx_array_build.proofs.same.count_of.Given as goal

abbrev pub invariant-loop-i : goal.invariant-loop-i
invariant-loop-i l = record {
  same : rows_of_parts (take l.i l.parts) ≡ replicate l.count (value_of l.value);
  fit : EachFit (take l.i l.parts);
}
