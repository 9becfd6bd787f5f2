use Rattle.std.proofs.Common.{◌∙◌, ap}
use Rattle.serde_json.specs.Written.{has_float}
use Rattle.vx_value.specs.Paths.{minimal_paths}
use Rattle.vx_value.specs.Views.{type_of}
use Rattle.vx_tree.specs.Views.{bound_of}
use Rattle.vx_query_split.specs.Division.{parts_of}
use Rattle.vx_command_pages.specs.PlanData.{plan_data}
use Rattle.vx_command_pages.proofs.Floats.{in_plan, in_planned_tasks}
use Rattle.vx_command_pages.proofs.tasks.planned_tasks_page.Goals as goal

pub value_line-requires : goal.value_line-requires
value_line-requires c =
    let plan = c.args.plan.now in
    let planned = plan_data (type_of plan.scope) (bound_of plan.tree) (minimal_paths plan.paths) (parts_of plan.split) in
    let without = in_plan (type_of plan.scope) (bound_of plan.tree) (minimal_paths plan.paths) (parts_of plan.split) in
    ap has_float c.in_ok-planned_tasks_value.ensures ∙ in_planned_tasks planned c.args.tasks.now without
