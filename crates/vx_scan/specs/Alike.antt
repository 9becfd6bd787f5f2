-- When two batches make a tree fault alike.
use Rattle.std.specs.Prelude.{◌≡◌, List}
use Rattle.vx_value.specs.Fits.{IsBatch}
use Rattle.vx_value.specs.Paths.{Path, minimal_paths}
use Rattle.vx_value.specs.Types.{LogicalType, Datum}
use Rattle.vx_tree.specs.Faults.{first_fault}
use Rattle.vx_tree.specs.Trees.{BoundTree, WellTyped, Over}
use Rattle.vx_rewrite_core.specs.Steps.{Normal}
use Rattle.vx_rewrite_paths.specs.Agreement.{RowsAgree}
use Rattle.vx_rewrite_paths.specs.Asked.{referenced}
use Rattle.vx_rewrite_rule_laws.specs.Rules.{RuleAt}

-- on two batches that agree along the paths the tree has the same first fault, or none on either
abbrev pub FixTheFault : BoundTree → List Path → Type 0
FixTheFault b paths = (s : LogicalType) (first second : List Datum) → Over b s → IsBatch s first → IsBatch s second →
    RowsAgree paths s first second → first_fault b first ≡ first_fault b second

-- the referenced paths of a tree at no node of which a standard rule fits fix its first fault
abbrev pub NormalTreesFaultAlike : Type 0
NormalTreesFaultAlike = (b : BoundTree) → WellTyped b → Normal RuleAt b → FixTheFault b (minimal_paths (referenced b))
