use Rattle.std.proofs.Common.{◌∙◌, ap}
use Rattle.serde_json.specs.Written.{has_float}
use Rattle.vx_value.specs.Paths.{minimal_paths}
use Rattle.vx_command_pages.proofs.Floats.{in_paths}
use Rattle.vx_command_pages.proofs.planned.paths_page.Goals as goal

pub value_line-requires : goal.value_line-requires
value_line-requires c = ap has_float c.in_ok-paths_value.ensures ∙ in_paths (minimal_paths c.args.paths.now)
