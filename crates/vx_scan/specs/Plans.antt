-- What a plan for scans promises.
use Rattle.std.specs.Prelude.{◌≡◌, List, Option}
use Rattle.vx_value.specs.Paths.{Path}
use Rattle.vx_value.specs.Types.{LogicalType}
use Rattle.vx_tree.specs.Trees.{Tree, BoundTree, WellTyped, Over}
use Rattle.vx_rewrite_core.specs.Steps.{Normal}
use Rattle.vx_rewrite_core.specs.NormalForms.{NormalForm}
use Rattle.vx_rewrite_rule_laws.specs.Rules.{RuleAt}
use Rattle.vx_rewrite_paths.specs.Asked.{referenced}
use Rattle.vx_query_split.specs.Division.{Parts, IsSplitOf}
use Rattle.vx_query_split.specs.Sources.{IsBound}

-- the plan's tree is well typed, over its scope, and no standard rule fits at any of its nodes; the paths are those that it references, and the split is its own
pub record IsPlan (s : LogicalType) (u : BoundTree) (paths : List Path) (split : Option Parts) : Type 0 where
  pub well_typed : WellTyped u
  pub over : Over u s
  pub normal : Normal RuleAt u
  pub referenced : paths ≡ referenced u
  pub divided : ∥ IsSplitOf s u split ∥₁

-- the plan's scope is the type s, and its tree is a normal form, by the rules R, of the source e bound to s
abbrev pub IsPlanFor : (BoundTree → BoundTree → Type 0) → Tree → LogicalType → LogicalType → BoundTree → Type 0
IsPlanFor R e s scope u = (scope ≡ s) × ((b : BoundTree) × IsBound e s b × NormalForm R b u)

-- rules may plan scans where what is normal by them is so by the standard rules: two batches that agree along its paths make such a tree fault alike
abbrev pub LeavesNormal : (BoundTree → BoundTree → Type 0) → Type 0
LeavesNormal R = (b : BoundTree) → Normal R b → Normal RuleAt b
