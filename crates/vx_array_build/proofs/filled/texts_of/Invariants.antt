use Rattle.std.proofs.Common.{map}
use Rattle.vx_array.specs.Kinds.{text_row}
use Rattle.vx_array_build.specs.Filled.{IsFilled, rows_lent}
use Rattle.vx_array_build.proofs.filled.texts_of.Given as goal

abbrev pub invariant-loop-i : goal.invariant-loop-i
invariant-loop-i l = IsFilled (map text_row l.spans) (rows_lent l.rows) l.i
