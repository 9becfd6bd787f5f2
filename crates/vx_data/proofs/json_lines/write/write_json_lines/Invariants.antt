use Rattle.std.proofs.Common.{◌≡◌, ℕ, List, ◌++◌, map, take}
use Rattle.std.specs.Io.KnownBytes.{Appends}
use Rattle.vx_value.specs.Views.{value_of}
use Rattle.vx_data.specs.Lines.{json_lines}
use Rattle.vx_data.proofs.json_lines.write.write_json_lines.Given as goal

abbrev pub invariant-loop-row : goal.invariant-loop-row
invariant-loop-row g l =
    (done : List ℕ) × Appends (g.W.Write.contents l.initial.writer) (g.W.Write.contents l.writer) done
    × (done ++ l.lines.items ≡ json_lines l.column.type (map value_of (take l.row l.value-items)))
