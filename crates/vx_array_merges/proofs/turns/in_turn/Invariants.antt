use Rattle.std.proofs.Common.{◌≡◌, ◌++◌, drop}
use Rattle.std.specs.Prelude.{option_map}
use Rattle.vx_array.specs.Rows.{lanes_each}
use Rattle.vx_eval.specs.Choices.{rows_in, in_turn}
use Rattle.vx_array_merges.proofs.turns.in_turn.Given as goal

abbrev pub invariant-loop-i : goal.invariant-loop-i
invariant-loop-i l =
    lanes_each l.lanes.items ++ in_turn (rows_in (drop l.i l.conditions)) (rows_in (drop l.i l.values)) (option_map (λ a. a.now.rows) l.otherwise)
    ≡ in_turn (rows_in l.conditions) (rows_in l.values) (option_map (λ a. a.now.rows) l.otherwise)
