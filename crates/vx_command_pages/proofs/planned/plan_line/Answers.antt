use Rattle.std.proofs.Common.{◌∙◌, ap}
use Rattle.serde_json.specs.Written.{has_float}
use Rattle.vx_value.specs.Paths.{minimal_paths}
use Rattle.vx_value.specs.Views.{type_of}
use Rattle.vx_tree.specs.Views.{bound_of}
use Rattle.vx_query_split.specs.Division.{parts_of}
use Rattle.vx_command_pages.proofs.Floats.{in_plan}
use Rattle.vx_command_pages.proofs.planned.plan_line.Goals as goal

pub value_line-requires : goal.value_line-requires
value_line-requires c =
    let plan = c.args.plan.now in
    ap has_float c.in_ok-plan_value.ensures ∙ in_plan (type_of plan.scope) (bound_of plan.tree) (minimal_paths plan.paths) (parts_of plan.split)
