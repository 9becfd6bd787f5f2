use Rattle.std.proofs.Common.{◌≡◌}
use Rattle.vx_value.specs.Views.{type_of}
use Rattle.vx_data.proofs.csv_files.rows.rows_from_csv_with.Given as goal

abbrev pub invariant-records : goal.invariant-records
invariant-records g l = l.rows.type ≡ type_of l.dtype
