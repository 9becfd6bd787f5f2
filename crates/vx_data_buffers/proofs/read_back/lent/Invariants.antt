use Rattle.std.proofs.Common.{◌≡◌, take}
use Rattle.vx_data_buffers.specs.Bytes.{bytes_in}
use Rattle.vx_data_buffers.specs.Laid.{lists_in}
use Rattle.vx_data_buffers.proofs.read_back.lent.Given as goal

abbrev pub invariant-loop-i : goal.invariant-loop-i
invariant-loop-i l = bytes_in l.lent.items ≡ lists_in (take l.i l.buffers)
