-- What the row `cases` shows: a CASE of two conditions, of which the first that is true wins.
use Rattle.std.specs.Prelude.{[], ◌∷◌}
use Rattle.vx_value.specs.Columns.{batch}
use Rattle.vx_value.specs.Types.{null}
use Rattle.vx_tree.specs.Examples.{i32_or_null, with_x, row_of, number_of}
use Rattle.vx_tree.specs.WorkedRows.{two_cases}
use Rattle.vx_run.specs.Samples.{Sample}

-- `CASE WHEN $.x > 0 THEN 10 WHEN $.x > 3 THEN 20 ELSE 30 END` over the rows `{x: 1}`, `{x: 5}` and `{x: null}`
abbrev pub cases : Sample
cases = record { source = two_cases; batch = batch (with_x i32_or_null) (row_of (number_of 1) ∷ row_of (number_of 5) ∷ row_of null ∷ []) }
