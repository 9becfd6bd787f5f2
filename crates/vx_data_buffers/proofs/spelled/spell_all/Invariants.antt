use Rattle.std.proofs.Common.{map, take}
use Rattle.vx_data_buffers.proofs.NumberBytes.{SoFar}
use Rattle.vx_data_buffers.proofs.spelled.spell_all.Given as goal

abbrev pub invariant-loop-i : goal.invariant-loop-i
invariant-loop-i g l = SoFar g.T.Native.kind l.bytes.items (map g.T.Number.number (take l.i l.numbers))
