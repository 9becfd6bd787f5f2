use Rattle.std.specs.Prelude.{IfOk}
use Rattle.vx_rewrite_core.specs.NormalForms.{NormalForm}
use Rattle.vx_tree.specs.Views.{bound_of, tree_of}
use Rattle.vx_rewrite_rule_laws.specs.Branches.{BranchRuleAt}
use Rattle.vx_run.specs.Branches.{branches, never_then_zero}
use Rattle.vx_run.proofs.Branching.{left}
use Rattle.vx_run.proofs.Made.{made, bound_source}
use Rattle.vx_run.proofs.branches.tree.Goals as goal

pub returns : goal.returns
returns c =
    let form : IfOk c.optimized.result (λ u. NormalForm BranchRuleAt (bound_of c.in_ok-bound.bound) (bound_of u)) = c.optimized.ensures.form in
    left (bound_of c.in_ok-bound.bound) c.optimized.result
    (bound_source never_then_zero branches.batch.type (bound_of c.in_ok-bound.bound) (tree_of c.in_ok-case.case) _ c.in_ok-bound.ensures.well_typed c.in_ok-bound.ensures.over.0 c.in_ok-bound.ensures.over.1 (made never_then_zero _ c.in_ok-case.ensures) c.requires)
    form c.optimized.ensures.memory
