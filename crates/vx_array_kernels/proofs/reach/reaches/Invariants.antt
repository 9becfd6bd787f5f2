use Rattle.std.proofs.Common.{◌≡◌, ◌≤◌, ◌+◌, ℕ, Bool, List, length, take, drop}
use Rattle.std.specs.Str.{IsAscii}
use Rattle.vx_fn.specs.Values.{Part, matches}
use Rattle.vx_array_loops.specs.WordBits.{bit_of}
use Rattle.vx_array_kernels.specs.Reach.{alive, row, AreSteps}
use Rattle.vx_array_kernels.proofs.reach.reaches.Given as goal

abbrev pub invariant-loop-step : goal.invariant-loop-step
invariant-loop-step l = (ci : Bool) (bytes : List ℕ) (ps : List Part) → AreSteps ci bytes ps l.steps → l.from + l.len ≤ length bytes → IsAscii (take l.len (drop l.from bytes)) → alive (bit_of l.reached) (drop l.step-index ps) (row ci bytes l.from l.len) ≡ matches ps (row ci bytes l.from l.len)
