use Rattle.std.proofs.Common.{◌≡◌, ◌++◌, drop, length, true}
use Rattle.std.proofs.Math.ListN.{replicate}
use Rattle.vx_eval_masks.specs.Merges.{claimed, unclaimed}
use Rattle.vx_eval.specs.FirstMerged.{masks_in}
use Rattle.vx_eval.proofs.merges.own_rows.Given as goal

abbrev pub invariant-loop-branch : goal.invariant-loop-branch
invariant-loop-branch l = record {
  size : length l.left ≡ length l.rest;
  own : l.masks.items ++ claimed l.left (masks_in (drop l.branch-index l.branches)) ≡ claimed (replicate (length l.rest) true) (masks_in l.branches);
  left_over : unclaimed l.left (masks_in (drop l.branch-index l.branches)) ≡ unclaimed (replicate (length l.rest) true) (masks_in l.branches);
}
