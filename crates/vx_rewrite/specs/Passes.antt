-- What passes over a bound tree give.
use Rattle.std.specs.Prelude.{◌≡◌, List, [], ◌∷◌}
use Rattle.vx_tree.specs.Trees.{BoundTree}
use Rattle.vx_rewrite_fusing.specs.Merging.{IsFusedOf}
use Rattle.vx_rewrite_core.specs.NormalForms.{NormalForm, RootNormalForm}
use Rattle.vx_rewrite_rule_laws.specs.Rules.{RuleAt}
use Rattle.vx_rewrite_rule_laws.specs.Branches.{BranchRuleAt}
use Rattle.vx_rewrite_rule_laws.specs.Folding.{FoldingRuleAt}
use Rattle.vx_rewrite.specs.declared.passes.Pass.{Pass}
use Rattle.vx_rewrite.specs.declared.passes.Pass.TheVariants.{Optimize, OptimizeRecursive, FindBetween, Branches, Fold}

-- u is what the pass may answer for b: a normal form at the root, one of the whole tree by the standard, the branch or the folding rules, or the tree fused
abbrev pub Gives : Pass → BoundTree → BoundTree → Type 0
Gives Optimize b u = RootNormalForm RuleAt b u
Gives OptimizeRecursive b u = NormalForm RuleAt b u
Gives FindBetween b u = IsFusedOf b u
Gives Branches b u = NormalForm BranchRuleAt b u
Gives Fold b u = NormalForm FoldingRuleAt b u

-- u is what the passes may answer for b, one after another
abbrev pub Passed : List Pass → BoundTree → BoundTree → Type 0
Passed [] b u = u ≡ b
Passed (pass ∷ rest) b u = (c : BoundTree) × Gives pass b c × Passed rest c u
