use Rattle.std.proofs.Common.{◌≡◌, take}
use Rattle.std.specs.Prelude.{string_bytes}
use Rattle.std.specs.List.{flat_map}
use Rattle.vx_command_pages.specs.Tasks.{task_line}
use Rattle.vx_command_pages.proofs.tasks.tasks_page.Given as goal

abbrev pub invariant-loop-task : goal.invariant-loop-task
invariant-loop-task l = string_bytes l.page ≡ flat_map task_line (take l.task-index l.tasks)
