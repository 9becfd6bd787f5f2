-- What the row `kleene` shows: two bounds of one field, of which one is null.
use Rattle.std.specs.Prelude.{[], ◌∷◌}
use Rattle.vx_value.specs.Columns.{batch}
use Rattle.vx_tree.specs.Examples.{i32, with_x, row_of, number_of}
use Rattle.vx_tree.specs.WorkedRows.{range_of_x}
use Rattle.vx_run.specs.Samples.{Sample}

-- `$.x >= null and $.x <= 5` over the rows `{x: 10}` and `{x: 1}`
abbrev pub kleene : Sample
kleene = record { source = range_of_x; batch = batch (with_x i32) (row_of (number_of 10) ∷ row_of (number_of 1) ∷ []) }
