use Rattle.std.proofs.Common.{map, string_bytes}
use Rattle.std.specs.List.{list_any}
use Rattle.vx_value.specs.Paths.{minimal_paths}
use Rattle.vx_sql_plan.specs.Statements.{leads_into}
use Rattle.vx_sql_plan.proofs.ReadColumns.{Turn}
use Rattle.vx_sql_plan.proofs.columns.column_texts.Given as goal

abbrev pub invariant-loop-i : goal.invariant-loop-i
invariant-loop-i l = Turn l.fn.dialect (λ a. list_any (leads_into a) (minimal_paths l.fn.paths)) l.names l.i (map string_bytes l.texts.items)
