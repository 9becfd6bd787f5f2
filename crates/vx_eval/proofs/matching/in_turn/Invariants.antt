use Rattle.std.proofs.Common.{◌≡◌, ◌++◌, drop}
use Rattle.std.specs.Prelude.{option_map}
use Rattle.vx_eval.specs.Choices.{rows_in, in_turn}
use Rattle.vx_eval.specs.Columns.{rows_views}
use Rattle.vx_eval.proofs.matching.in_turn.Given as goal

abbrev pub invariant-loop-i : goal.invariant-loop-i
invariant-loop-i l =
    rows_views l.columns.items ++ in_turn (rows_in (drop l.i l.conditions)) (rows_in (drop l.i l.values)) (option_map (λ c. c.now.rows) l.otherwise)
    ≡ in_turn (rows_in l.conditions) (rows_in l.values) (option_map (λ c. c.now.rows) l.otherwise)
