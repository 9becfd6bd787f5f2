-- What a rule of a CASE by its first condition gives is lighter.
use Rattle.std.proofs.Common.{◌<◌, arith}
use Rattle.vx_tree.specs.Trees.{BoundTree, WellTyped}
use Rattle.vx_rewrite_core.specs.Weights.{weight}
use Rattle.vx_rewrite_rule_laws.specs.Branches.{BranchAt, first_branch, other_pairs, else_branch, no_branch}
use Rattle.vx_rewrite_core.proofs.Casts.{as_type-weight}

pub branch_lightens : (b u : BoundTree) → WellTyped b → BranchAt b u → weight u < weight b
branch_lightens b u w (first_branch a) = let h = as_type-weight a in omega (arith, h)
branch_lightens b u w (other_pairs z l e) = omega arith
branch_lightens b u w (else_branch z a) = let h = as_type-weight a in omega (arith, h)
branch_lightens b u w (no_branch z) = omega arith
