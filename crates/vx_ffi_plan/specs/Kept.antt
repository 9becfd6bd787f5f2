-- What a kept plan is a plan of, and what is answered of it.
use Rattle.std.specs.Prelude.{◌≡◌, ℕ, List, Ok, string_bytes}
use Rattle.vx_value.specs.Columns.{Batch}
use Rattle.vx_value.specs.Types.{LogicalType}
use Rattle.vx_value.specs.Views.{type_of}
use Rattle.vx_tree.specs.Trees.{Tree, BoundTree, node_type}
use Rattle.vx_tree.specs.Views.{bound_of, tree_of}
use Rattle.vx_rewrite_rule_laws.specs.Folding.{FoldingRuleAt}
use Rattle.vx_query_split.specs.Division.{parts_of}
use Rattle.vx_scan.specs.Plans.{IsPlanFor}
use Rattle.vx_scan.specs.Scans.{Scanned}
use Rattle.vx_data_buffers.specs.Rows.{column_said}
use Rattle.vx_source_types.specs.TypeTexts.{type_source}
use Rattle.vx_data.specs.Lines.{json_lines}
use Rattle.vx_command_pages.specs.Inputs.{ReadsAs, ReadsType}
use Rattle.vx_command_pages.specs.Pages.{line}
use Rattle.vx_command_pages.specs.PlanPages.{paths_line}
use Rattle.vx_ffi_plan.specs.declared.kept.KeptPlan.{KeptPlan}

-- the expression, the type of the batches, and the plan's tree
abbrev pub source_of : KeptPlan → Tree
source_of kept = tree_of kept.placed.value.expression

abbrev pub scope_of : KeptPlan → LogicalType
scope_of kept = type_of kept.plan.value.scope

abbrev pub planned_tree : KeptPlan → BoundTree
planned_tree kept = bound_of kept.plan.value.tree

-- the plan is one, by the folding rules, of the expression that the text is read as, over the type that the schema is read as
abbrev pub IsKept : List ℕ → List ℕ → KeptPlan → Type 0
IsKept text schema kept = (string_bytes kept.text ≡ text)
    × ((s : LogicalType) × ReadsAs text s (source_of kept) × ReadsType schema s × IsPlanFor FoldingRuleAt (source_of kept) s (scope_of kept) (planned_tree kept))

-- the page has the paths that the plan reads
abbrev pub IsPathsPage : KeptPlan → List ℕ → Type 0
IsPathsPage kept page = page ≡ paths_line kept.plan.value.paths

-- the page has the type of the plan's batches
abbrev pub IsScopePage : KeptPlan → List ℕ → Type 0
IsScopePage kept page = page ≡ line (type_source (scope_of kept))

-- the page has the type of the plan's expression
abbrev pub IsPlanTypePage : KeptPlan → List ℕ → Type 0
IsPlanTypePage kept page = page ≡ line (type_source (node_type (planned_tree kept)))

-- the column is what a scan by the plan gives of the batch
abbrev pub IsScanOf : KeptPlan → Batch → Batch → Type 0
IsScanOf kept batch values = Scanned (scope_of kept) (planned_tree kept) kept.plan.value.paths (parts_of kept.plan.value.split) batch (Ok values)

-- the buffers have a batch of so many rows, and the page has a line for each value that a scan by the plan gives of it
abbrev pub IsScanPage : KeptPlan → ℕ → List (List ℕ) → List ℕ → Type 0
IsScanPage kept rows buffers page = (batch values : Batch) × (column_said buffers (scope_of kept) rows ≡ Ok batch) × IsScanOf kept batch values × (page ≡ json_lines values.type values.rows)
