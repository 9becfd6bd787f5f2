use Rattle.std.proofs.Common.{◌≡◌, ◌++◌, drop}
use Rattle.vx_eval_masks.specs.Masks.{but}
use Rattle.vx_eval_masks.proofs.bits.and_not.Given as goal

abbrev pub invariant-loop-i : goal.invariant-loop-i
invariant-loop-i l = l.made.items ++ but (drop l.i l.bits) (drop l.i l.others) ≡ but l.bits l.others
