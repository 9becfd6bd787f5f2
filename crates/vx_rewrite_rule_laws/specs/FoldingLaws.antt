-- What folding promises, alone and behind the branch rules.
use Rattle.vx_tree.specs.Trees.{BoundTree}
use Rattle.vx_rewrite_core.specs.Steps.{Normal}
use Rattle.vx_rewrite_core.specs.FromSubterms.{FromSubterms}
use Rattle.vx_rewrite_core.specs.Sets.{Keeping, Lightening, StayingNormal, Functional, NormalFormIsOne}
use Rattle.vx_rewrite_rule_laws.specs.Branches.{BranchRuleAt}
use Rattle.vx_rewrite_rule_laws.specs.Rules.{RuleAt}
use Rattle.vx_rewrite_rule_laws.specs.Folding.{FoldAt, FoldingRuleAt}

-- what folding gives keeps the tree at which it is given
abbrev pub FoldsKeep : Type 0
FoldsKeep = Keeping FoldAt

-- so does what the rules together give
abbrev pub FoldingRulesKeep : Type 0
FoldingRulesKeep = Keeping FoldingRuleAt

-- what is given is lighter
abbrev pub FoldingRulesLighten : Type 0
FoldingRulesLighten = Lightening FoldingRuleAt

-- what is normal below the root stays so
abbrev pub FoldingRulesStayNormal : Type 0
FoldingRulesStayNormal = StayingNormal FoldingRuleAt

-- each new child stood below the root, or is a literal, at which nothing is given
abbrev pub FoldingRulesAreModest : Type 0
FoldingRulesAreModest = FromSubterms FoldingRuleAt

-- at most one tree is given at a node
abbrev pub FoldingRulesAreFunctional : Type 0
FoldingRulesAreFunctional = Functional FoldingRuleAt

-- where none of the rules fits at any node no branch rule does, and no standard rule
abbrev pub FoldingNormalIsNormal : Type 0
FoldingNormalIsNormal = (b : BoundTree) → Normal FoldingRuleAt b → Normal BranchRuleAt b × Normal RuleAt b

-- a tree that is normal below its root has one normal form
abbrev pub FoldingNormalFormIsOne : Type 0
FoldingNormalFormIsOne = NormalFormIsOne FoldingRuleAt
