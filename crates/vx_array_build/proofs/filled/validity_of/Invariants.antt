use Rattle.vx_array_build.specs.Filled.{IsSaid, rows_lent}
use Rattle.vx_array_build.proofs.filled.validity_of.Given as goal

abbrev pub invariant-loop-i : goal.invariant-loop-i
invariant-loop-i l = IsSaid l.valid.items (rows_lent l.rows) l.i
