-- The lines of the texts so far are made.
use Rattle.std.proofs.Common.{◌≡◌}
use Rattle.vx_records.specs.Chunks.{true_lines, texts_in, values_in}
use Rattle.vx_records.proofs.lines.lines_of.Given as goal

abbrev pub invariant-loop-i : goal.invariant-loop-i
invariant-loop-i l = l.lines.items ≡ true_lines (texts_in l.texts) (values_in l.values) l.i
