use Rattle.std.proofs.Common.{sym, subst}
use Rattle.vx_dtype.specs.Returns.{ReturnsOrOom}
use Rattle.vx_value.proofs.Misfits.{no_misfit}
use Rattle.vx_tree.specs.Trees.{Over, WellTyped}
use Rattle.vx_tree.specs.Views.{bound_of}
use Rattle.vx_eval.specs.Evaluation.{evaluation}
use Rattle.vx_array_scan.proofs.Selecting.{meaning_kept}
use Rattle.vx_array_scan.proofs.selected.evaluated.Goals as goal

pub apply_array-requires : goal.apply_array-requires
apply_array-requires c = subst (λ t. WellTyped (bound_of t)) (sym c.tree.ensures) c.args.plan.now.is_plan.well_typed

pub returns : goal.returns
returns c =
    let batch = c.args.batch.now in
    let plan = c.args.plan.now in
    let u = bound_of plan.tree in
    let r = c.apply_array.result in
    let over : Over u batch.type = subst (Over u) (sym c.requires) plan.is_plan.over in
    let lent : Over (bound_of c.tree.result.now) batch.type = subst (λ t. Over (bound_of t) batch.type) (sym c.tree.ensures) over in
    let gives : ReturnsOrOom (λ x. x) r (evaluation u batch) = subst (λ t. ReturnsOrOom (λ x. x) r (evaluation (bound_of t) batch)) c.tree.ensures (c.apply_array.ensures.meaning lent) in
    (gives, meaning_kept u batch r ((no_misfit batch.type batch.rows).0 c.lanes.ensures.fit) gives)
