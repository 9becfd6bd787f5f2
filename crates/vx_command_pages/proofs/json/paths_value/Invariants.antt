use Rattle.std.proofs.Common.{◌≡◌, ◌++◌, map}
use Rattle.serde_json.specs.View.{view}
use Rattle.vx_value.specs.Paths.{minimal_paths}
use Rattle.vx_command_pages.specs.PlanData.{path_data}
use Rattle.vx_command_pages.proofs.json.paths_value.Given as goal

abbrev pub invariant-loop-path : goal.invariant-loop-path
invariant-loop-path l = map view l.values.items ++ map path_data l.path-iterator ≡ map path_data (minimal_paths l.paths)
