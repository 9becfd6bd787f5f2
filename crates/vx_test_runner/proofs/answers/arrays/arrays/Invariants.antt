use Rattle.std.proofs.Common.{◌≡◌, take}
use Rattle.vx_test_runner.proofs.answers.arrays.arrays.Given as goal

abbrev pub invariant-loop-column : goal.invariant-loop-column
invariant-loop-column l = l.arrays.items ≡ take l.column-index l.columns
