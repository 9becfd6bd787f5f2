use Rattle.std.proofs.Common.{◌≡◌, map, take}
use Rattle.serde_json.specs.View.{view}
use Rattle.vx_command_pages.specs.Tasks.{task_data}
use Rattle.vx_command_pages.proofs.tasks.tasks_value.Given as goal

abbrev pub invariant-loop-task : goal.invariant-loop-task
invariant-loop-task l = map view l.values.items ≡ map task_data (take l.task-index l.tasks)
