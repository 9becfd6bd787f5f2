-- What the command `plan` prints, and the line of a plan's paths.
use Rattle.std.specs.Prelude.{◌≡◌, ℕ, List, Option}
use Rattle.serde_json.specs.Written.{compact_text}
use Rattle.vx_value.specs.Paths.{Path, minimal_paths}
use Rattle.vx_value.specs.Types.{LogicalType}
use Rattle.vx_tree.specs.Trees.{Tree, BoundTree}
use Rattle.vx_rewrite_rule_laws.specs.Folding.{FoldingRuleAt}
use Rattle.vx_query_split.specs.Division.{Parts}
use Rattle.vx_scan.specs.Plans.{IsPlan, IsPlanFor}
use Rattle.vx_command_pages.specs.Inputs.{ReadsAs, ReadsType}
use Rattle.vx_command_pages.specs.Pages.{line}
use Rattle.vx_command_pages.specs.PlanData.{paths_data, plan_data}

-- the paths of which no other is a proper prefix, as JSON on one line
abbrev pub paths_line : List Path → List ℕ
paths_line paths = line (compact_text (paths_data (minimal_paths paths)))

-- the page is a plan of the expression over that type, by the folding rules
abbrev pub IsPagePlanned : Tree → LogicalType → List ℕ → Type 0
IsPagePlanned e s page = (u : BoundTree) × (paths : List Path) × (split : Option Parts)
    × IsPlanFor FoldingRuleAt e s s u × IsPlan s u paths split × (page ≡ line (compact_text (plan_data s u (minimal_paths paths) split)))

-- the page is a plan of the expression that the text is read as, over the scope's type that the schema is read as: its tree,
-- the paths that this references, and its split, as JSON on one line
abbrev pub IsPlanPage : List ℕ → List ℕ → List ℕ → Type 0
IsPlanPage text schema page = (e : Tree) × (s : LogicalType) × ReadsAs text s e × ReadsType schema s × IsPagePlanned e s page
