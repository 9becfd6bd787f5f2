use Rattle.std.proofs.Common.{◌≡◌}
use Rattle.vx_value.specs.Views.{type_of}
use Rattle.vx_data.proofs.json_lines.rows.rows_from_json.Given as goal

abbrev pub invariant-records : goal.invariant-records
invariant-records g l = l.rows.type ≡ type_of l.dtype
