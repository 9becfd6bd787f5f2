-- No float stands in the data of plans, paths and chunks, so their texts are told whole.
use Rattle.std.proofs.Common.{◌≡◌, List, [], ◌∷◌, map, Option, Some, None, false, refl}
use Rattle.serde_json.specs.Data.{Data, string}
use Rattle.serde_json.specs.View.{items_of}
use Rattle.serde_json.specs.Written.{has_float, items_have_float}
use Rattle.vx_value.specs.Paths.{Path}
use Rattle.vx_value.specs.Types.{Name, LogicalType}
use Rattle.vx_tree.specs.Trees.{BoundTree, BoundTrees, no_bound, bound}
use Rattle.vx_query_split.specs.Division.{Parts}
use Rattle.vx_command_pages.specs.PlanData.{paths_data, partition_items, plan_data}
use Rattle.vx_command_pages.specs.Tasks.{task_data, planned_tasks_data}
use Rattle.vx_command_pages.specs.declared.tasks.ChunkTask.{ChunkTask}

names : (path : Path) → items_have_float (items_of (map string path)) ≡ false
names [] = refl
names (a ∷ path) = names path

pub in_paths : (paths : List Path) → has_float (paths_data paths) ≡ false
in_paths [] = refl
in_paths (p ∷ paths) = rw (names p) (in_paths paths)

partitions : (ns : List Name) (bs : BoundTrees) → items_have_float (partition_items ns bs) ≡ false
partitions [] bs = refl
partitions (n ∷ ns) no_bound = refl
partitions (n ∷ ns) (bound b bs) = partitions ns bs

pub in_plan : (s : LogicalType) (u : BoundTree) (paths : List Path) (split : Option Parts) → has_float (plan_data s u paths split) ≡ false
in_plan s u paths None = rw (in_paths paths) refl
in_plan s u paths (Some p) = rw (partitions p.names p.partitions, in_paths paths) refl

tasks_in : (tasks : List ChunkTask) → items_have_float (items_of (map task_data tasks)) ≡ false
tasks_in [] = refl
tasks_in (t ∷ tasks) = tasks_in tasks

pub in_planned_tasks : (plan : Data) (tasks : List ChunkTask) → has_float plan ≡ false → has_float (planned_tasks_data plan tasks) ≡ false
in_planned_tasks plan tasks h = rw (tasks_in tasks, h) refl
