use Rattle.std.proofs.Common.{◌≡◌, take}
use Rattle.vx_value.specs.StructColumns.{EachFit}
use Rattle.vx_array_build.specs.Parts.{rows_of_parts}
use Rattle.vx_array_build.proofs.parts.joined_in.Given as goal

abbrev pub invariant-loop-i : goal.invariant-loop-i
invariant-loop-i g l = record {
  joined : g.B.RowsBuilder.rows l.rows ≡ rows_of_parts (take l.i l.parts);
  fit : EachFit (take l.i l.parts);
}
