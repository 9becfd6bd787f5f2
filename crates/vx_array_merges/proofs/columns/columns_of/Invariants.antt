use Rattle.std.proofs.Common.{◌≡◌, take}
use Rattle.vx_array_merges.proofs.columns.columns_of.Given as goal

abbrev pub invariant-loop-array : goal.invariant-loop-array
invariant-loop-array l = l.columns.items ≡ take l.array-index l.arrays
