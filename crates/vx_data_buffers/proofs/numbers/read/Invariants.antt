use Rattle.std.proofs.Common.{map}
use Rattle.vx_data_buffers.specs.Arrays.{AreNumbers}
use Rattle.vx_data_buffers.proofs.numbers.read.Given as goal

abbrev pub invariant-loop-i : goal.invariant-loop-i
invariant-loop-i g l = AreNumbers g.T.Native.kind l.bytes l.i (map g.T.Number.number l.numbers.items)
