use Rattle.std.proofs.Common.{◌≡◌, ◌++◌, drop}
use Rattle.vx_eval_masks.specs.Masks.{both}
use Rattle.vx_eval_masks.proofs.bits.and.Given as goal

abbrev pub invariant-loop-i : goal.invariant-loop-i
invariant-loop-i l = l.made.items ++ both (drop l.i l.bits) (drop l.i l.others) ≡ both l.bits l.others
