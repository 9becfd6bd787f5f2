-- Folding is a lawful set behind the branch rules, and gives at most one tree.
use Rattle.vx_tree.specs.Trees.{BoundTree}
use Rattle.vx_rewrite_core.specs.Lawful.{Lawful}
use Rattle.vx_rewrite_core.specs.Steps.{Normal}
use Rattle.vx_rewrite_core.proofs.Prelude.{modest_lawful, one_normal_form, either_normal, either_functional, either_modest, either_lawful}
use Rattle.vx_rewrite_core.specs.FromSubterms.{FromSubterms}
use Rattle.vx_rewrite_core.specs.Sets.{Keeping, Lightening, Functional, NormalFormIsOne}
use Rattle.vx_rewrite_rule_laws.specs.Rules.{RuleAt}
use Rattle.vx_rewrite_rule_laws.proofs.BranchDecisions.{branch_rule_functional}
use Rattle.vx_rewrite_rule_laws.proofs.BranchLawfulness.{branch_rules_modest, branch_rules_lawful, branch_normal}
use Rattle.vx_rewrite_rule_laws.specs.Branches.{BranchRuleAt}
use Rattle.vx_rewrite_rule_laws.proofs.FoldingKeeping.{folds_keep}
use Rattle.vx_rewrite_rule_laws.proofs.FoldingLightening.{folds_lighten}
use Rattle.vx_rewrite_rule_laws.proofs.FoldingModesty.{folds_modest}
use Rattle.vx_rewrite_rule_laws.specs.Folding.{FoldAt, behind, FoldingRuleAt}

-- ---- a set behind another

module _ (R S : BoundTree → BoundTree → Type 0) where
  behind_modest : FromSubterms S → FromSubterms (behind R S)
  behind_modest m = record { from = λ b u r. m.from b u r.1; at_literals = λ b l u r. m.at_literals b l u r.1 }

  behind_lawful : FromSubterms S → Keeping S → Lightening S → Lawful (behind R S)
  behind_lawful m keeps lighter = modest_lawful (behind R S) (behind_modest m) (λ b u w r. keeps b u w r.1) (λ b u w r. lighter b u w r.1)

  behind_functional : Functional S → Functional (behind R S)
  behind_functional f b u v w r s = f b u v w r.1 s.1

  apart : (b u v : BoundTree) → R b u → behind R S b v → ⊥
  apart b u v r s = s.0 u r

-- ---- folding

fold_functional : Functional FoldAt
fold_functional b u v w e f = cc

pub folding_modest : FromSubterms FoldingRuleAt
folding_modest = either_modest BranchRuleAt (behind BranchRuleAt FoldAt) branch_rules_modest (behind_modest BranchRuleAt FoldAt folds_modest)

pub folding_lawful : Lawful FoldingRuleAt
folding_lawful =
    either_lawful BranchRuleAt (behind BranchRuleAt FoldAt) branch_rules_modest (behind_modest BranchRuleAt FoldAt folds_modest)
    branch_rules_lawful (behind_lawful BranchRuleAt FoldAt folds_modest folds_keep folds_lighten)

pub folding_functional : Functional FoldingRuleAt
folding_functional =
    either_functional BranchRuleAt (behind BranchRuleAt FoldAt) branch_rule_functional
    (behind_functional BranchRuleAt FoldAt fold_functional) (apart BranchRuleAt FoldAt)

pub folding_normal : (b : BoundTree) → Normal FoldingRuleAt b → Normal BranchRuleAt b × Normal RuleAt b
folding_normal b n = let h = either_normal BranchRuleAt (behind BranchRuleAt FoldAt) b n in (h, branch_normal b h)

pub folding_form_is_one : NormalFormIsOne FoldingRuleAt
folding_form_is_one = one_normal_form FoldingRuleAt folding_lawful folding_functional
