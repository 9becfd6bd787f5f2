-- The lines of the texts so far are made.
use Rattle.std.proofs.Common.{◌≡◌, take}
use Rattle.vx_records.specs.Chunks.{each_line, texts_in}
use Rattle.vx_records.proofs.lines.all_lines_of.Given as goal

abbrev pub invariant-loop-text : goal.invariant-loop-text
invariant-loop-text l = l.lines.items ≡ each_line (texts_in (take l.text-index l.texts))
