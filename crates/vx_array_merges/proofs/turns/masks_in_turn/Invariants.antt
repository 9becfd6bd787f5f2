use Rattle.std.proofs.Common.{◌≡◌, ◌++◌, drop}
use Rattle.std.specs.Prelude.{Some}
use Rattle.vx_array.specs.Rows.{lanes_each}
use Rattle.vx_eval.specs.Choices.{in_turn}
use Rattle.vx_eval.specs.FirstMerged.{columns_in, masks_in}
use Rattle.vx_array_merges.specs.Turns.{truths_in}
use Rattle.vx_array_merges.proofs.turns.masks_in_turn.Given as goal

abbrev pub invariant-loop-branch : goal.invariant-loop-branch
invariant-loop-branch l =
    lanes_each l.lanes.items ++ in_turn (truths_in (masks_in (drop l.branch-index l.branches))) (columns_in (drop l.branch-index l.branches)) (Some l.otherwise.rows)
    ≡ in_turn (truths_in (masks_in l.branches)) (columns_in l.branches) (Some l.otherwise.rows)
