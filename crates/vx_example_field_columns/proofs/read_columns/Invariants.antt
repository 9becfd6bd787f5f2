use Rattle.std.proofs.Common.{◌≡◌, ◌++◌, drop}
use Rattle.vx_value.specs.Paths.{minimal_paths}
use Rattle.vx_example_field_columns.specs.FieldColumns.{read_columns}
use Rattle.vx_example_field_columns.proofs.read_columns.Given as goal

abbrev pub invariant-loop-i : goal.invariant-loop-i
invariant-loop-i l = read_columns (minimal_paths l.paths) l.names l.columns ≡ l.read.items ++ read_columns (minimal_paths l.paths) (drop l.i l.names) (drop l.i l.columns)
