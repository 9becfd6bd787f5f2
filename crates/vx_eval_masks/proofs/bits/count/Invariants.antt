use Rattle.std.proofs.Common.{◌≡◌, ◌≤◌, take}
use Rattle.std.specs.List.{count_by}
use Rattle.vx_eval_masks.proofs.bits.count.Given as goal

abbrev pub invariant-loop-i : goal.invariant-loop-i
invariant-loop-i l = record {
  so_far : l.n ≡ count_by (λ b. b) (take l.i l.bits);
  few : l.n ≤ l.i;
}
