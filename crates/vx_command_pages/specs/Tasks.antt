-- The chunks of rows that have to be read for a predicate, by what is known of each chunk.
use Rattle.std.specs.Prelude.{ℕ, ◌+◌, Bool, true, false, List, [], ◌∷◌, ◌++◌, map, Option, Some, None, codes}
use Rattle.std.specs.Fmt.{decimal}
use Rattle.serde_json.specs.Data.{Data, unsigned, number, string, array, object, member, no_members}
use Rattle.serde_json.specs.View.{items_of}
use Rattle.vx_tree.specs.Trees.{BoundTree}
use Rattle.vx_prune_tree.specs.Stats.{Facts}
use Rattle.vx_prune_tree.specs.Verdicts.{verdict_in}
use Rattle.vx_prune_tree.specs.declared.verdicts.Verdict.{Verdict}
use Rattle.vx_prune_tree.specs.declared.verdicts.Verdict.TheVariants.{NoRow, EveryRow, Unknown}
use Rattle.vx_command_pages.specs.declared.tasks.ChunkTask.{ChunkTask}

-- the n-th chunk, with so many rows, of which the tree is true of each, or it isn't known of which
abbrev pub task : ℕ → ℕ → Bool → ChunkTask
task n rows every_row = record { number = n; rows = rows; every_row = every_row }

-- it has to be read unless the tree is true of no row
abbrev pub task_of : ℕ → ℕ → Verdict → Option ChunkTask
task_of n rows NoRow = None
task_of n rows EveryRow = Some (task n rows true)
task_of n rows Unknown = Some (task n rows false)

abbrev pub with_task : Option ChunkTask → List ChunkTask → List ChunkTask
with_task None tasks = tasks
with_task (Some t) tasks = t ∷ tasks

-- those of the chunks, numbered from n on, that have to be read
abbrev pub tasks_from : BoundTree → ℕ → List Facts → List ChunkTask
tasks_from b n [] = []
tasks_from b n (facts ∷ chunks) = with_task (task_of n facts.rows (verdict_in facts b)) (tasks_from b (n + 1) chunks)

-- ---- as text and as data

abbrev pub task_words : Bool → List ℕ
task_words true = codes "every row"
task_words false = codes "to be read"

-- its number and what is known of it, on a line
abbrev pub task_line : ChunkTask → List ℕ
task_line t = decimal t.number ++ (codes " " ++ (task_words t.every_row ++ codes "\n"))

abbrev pub task_data : ChunkTask → Data
task_data t = object (member (codes "chunk") (number (unsigned t.number)) (member (codes "rows") (number (unsigned t.rows)) (member (codes "verdict") (string (task_words t.every_row)) no_members)))

abbrev pub tasks_data : List ChunkTask → Data
tasks_data tasks = array (items_of (map task_data tasks))

-- these beside a plan
abbrev pub planned_tasks_data : Data → List ChunkTask → Data
planned_tasks_data plan tasks = object (member (codes "chunks") (tasks_data tasks) (member (codes "plan") plan no_members))
