use Rattle.std.proofs.Common.{◌≡◌, take}
use Rattle.vx_data_buffers.specs.Laid.{lists_in}
use Rattle.vx_ffi_plan.specs.Frames.{framed}
use Rattle.vx_ffi_plan.proofs.frames.framed.Given as goal

abbrev pub invariant-loop-i : goal.invariant-loop-i
invariant-loop-i l = l.page.items ≡ framed l.rows (lists_in (take l.i l.buffers))
