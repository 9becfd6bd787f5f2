use Rattle.std.proofs.Common.{◌≡◌, length, map}
use Rattle.vx_array.specs.Rows.{lanes_each}
use Rattle.vx_array.specs.Shown.{masked}
use Rattle.vx_array_loops.specs.WordBits.{each_row}
use Rattle.vx_array_kernels.proofs.Picking.{picked}
use Rattle.vx_array_kernels.proofs.picked.gathered.Given as goal

abbrev pub invariant-loop-k : goal.invariant-loop-k
invariant-loop-k g l = (masked l.valid.items (map g.K.ByteKind.datum l.spans) ≡ each_row l.k (picked (lanes_each l.columns) l.choices)) × (length l.valid.items ≡ l.k) × (length l.spans ≡ l.k)
