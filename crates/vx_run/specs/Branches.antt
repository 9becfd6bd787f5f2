-- What the row `branches` shows: a CASE whose first condition never holds, after the branch rules.
use Rattle.std.specs.Prelude.{◌≡◌, ℕ, true, false, Ok}
use Rattle.vx_value.specs.Types.{bool}
use Rattle.vx_fn.specs.Functions.{case_when, fill_null, is_null, truth_type}
use Rattle.vx_tree.specs.Binding.{binding}
use Rattle.vx_tree.specs.Examples.{one, two, three, x, lit, lit_i32}
use Rattle.vx_tree.specs.Trees.{Tree, call, tree, BoundTree}
use Rattle.vx_rewrite_core.specs.Steps.{Steps, Normal}
use Rattle.vx_rewrite_rule_laws.specs.Branches.{BranchRuleAt}
use Rattle.vx_run.specs.Coalesce.{coalesce}
use Rattle.vx_run.specs.Samples.{Sample}

-- `CASE WHEN false THEN $.x WHEN $.x is null THEN 0 ELSE $.x END`
abbrev pub never_then_zero : Tree
never_then_zero = call (case_when 2 true) (tree (lit (truth_type false) (bool false)) (tree x (three (call is_null (one x)) (lit_i32 0) x)))

-- x, and 0 where it is null, over the rows of `coalesce`
abbrev pub branches : Sample
branches = record { source = call fill_null (two x (lit_i32 0)); batch = coalesce.batch }

-- it is what the rules leave of the CASE: bound to the rows' type, the tree reached by step after step until no rule fits at any node is this one
abbrev pub BranchesIsNormalForm : Type 0
BranchesIsNormalForm = (b u : BoundTree) (n : ℕ) → binding never_then_zero branches.batch.type ≡ Ok b → Steps BranchRuleAt b n u → Normal BranchRuleAt u → binding branches.source branches.batch.type ≡ Ok u
