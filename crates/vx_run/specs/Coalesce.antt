-- What the row `coalesce` shows: a CASE that gives 0 for null.
use Rattle.std.specs.Prelude.{[], ◌∷◌}
use Rattle.vx_value.specs.Columns.{batch}
use Rattle.vx_value.specs.Types.{null}
use Rattle.vx_tree.specs.Examples.{i32_or_null, with_x, row_of, number_of}
use Rattle.vx_tree.specs.WorkedRows.{zero_for_null}
use Rattle.vx_run.specs.Samples.{Sample}

-- `CASE WHEN $.x is null THEN 0 ELSE $.x END` over the rows `{x: null}` and `{x: 4}`
abbrev pub coalesce : Sample
coalesce = record { source = zero_for_null; batch = batch (with_x i32_or_null) (row_of null ∷ row_of (number_of 4) ∷ []) }
