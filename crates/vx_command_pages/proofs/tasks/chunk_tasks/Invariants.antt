use Rattle.std.proofs.Common.{◌≡◌, ◌+◌, ◌++◌, drop}
use Rattle.vx_tree.specs.Views.{bound_of}
use Rattle.vx_command_pages.specs.Tasks.{tasks_from}
use Rattle.vx_command_pages.proofs.tasks.chunk_tasks.Given as goal

-- the tasks so far, and those of the chunks that are left
abbrev pub invariant-loop-i : goal.invariant-loop-i
invariant-loop-i l = l.tasks.items ++ tasks_from (bound_of l.tree) (l.i + 1) (drop l.i l.chunks) ≡ tasks_from (bound_of l.tree) 1 l.chunks
