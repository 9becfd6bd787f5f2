-- What the rules of a CASE by its first condition promise, alone and beside the standard rules.
use Rattle.vx_tree.specs.Trees.{BoundTree}
use Rattle.vx_rewrite_core.specs.Steps.{Normal}
use Rattle.vx_rewrite_core.specs.FromSubterms.{FromSubterms}
use Rattle.vx_rewrite_core.specs.Sets.{Keeping, Lightening, StayingNormal, Functional, DecidedBy, NormalFormIsOne}
use Rattle.vx_rewrite_rule_laws.specs.Rules.{RuleAt}
use Rattle.vx_rewrite_rule_laws.specs.Branches.{BranchAt, BranchRuleAt}
use Rattle.vx_rewrite_rule_laws.specs.BranchGiven.{branch_given}

-- what is given keeps the tree at which it is given
abbrev pub BranchRulesKeep : Type 0
BranchRulesKeep = Keeping BranchRuleAt

-- what is given is lighter
abbrev pub BranchRulesLighten : Type 0
BranchRulesLighten = Lightening BranchRuleAt

-- what is normal below the root stays so
abbrev pub BranchRulesStayNormal : Type 0
BranchRulesStayNormal = StayingNormal BranchRuleAt

-- each new child stood below the root, or is a literal, at which nothing is given
abbrev pub BranchRulesAreModest : Type 0
BranchRulesAreModest = FromSubterms BranchRuleAt

-- at most one tree is given at a node
abbrev pub BranchRulesAreFunctional : Type 0
BranchRulesAreFunctional = Functional BranchRuleAt

-- what the rules of a CASE give is what they say as a function
abbrev pub BranchesAreDecided : Type 0
BranchesAreDecided = DecidedBy BranchAt branch_given

-- where none of the rules fits at any node no standard rule does
abbrev pub BranchNormalIsNormal : Type 0
BranchNormalIsNormal = (b : BoundTree) → Normal BranchRuleAt b → Normal RuleAt b

-- a tree that is normal below its root has one normal form
abbrev pub BranchNormalFormIsOne : Type 0
BranchNormalFormIsOne = NormalFormIsOne BranchRuleAt
