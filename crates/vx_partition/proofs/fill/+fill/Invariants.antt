use Rattle.std.specs.Slice.Iter.{iter_rest}
use Rattle.vx_partition.specs.Filling.{holes_seen}
use Rattle.vx_partition.proofs.Filling.{FilledSo}
use Rattle.vx_partition.proofs.fill.+fill.Given as goal

abbrev pub invariant-fill_each-loop-e : goal.invariant-fill_each-loop-e
invariant-fill_each-loop-e l = FilledSo (holes_seen l.holes) l.filled.items l.es l.e-index (iter_rest l.fn.marks) (iter_rest l.marks)
