use Rattle.std.proofs.Common.{◌≡◌, ◌++◌, ◌-◌, drop, length, None}
use Rattle.vx_eval_masks.specs.Masks.{runs_from, runs}
use Rattle.vx_eval_masks.proofs.bits.runs.Given as goal

abbrev pub invariant-loop-run : goal.invariant-loop-run
invariant-loop-run l = l.found.items ++ runs_from l.i None (drop l.i l.bits) ≡ runs l.bits

abbrev pub decreases-loop-run : goal.decreases-loop-run
decreases-loop-run l = length l.bits - l.i
