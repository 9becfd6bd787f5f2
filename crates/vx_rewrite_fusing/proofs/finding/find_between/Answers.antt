use Rattle.vx_rewrite_core.proofs.Keeping.{keeps_refl}
use Rattle.vx_rewrite_core.specs.Steps.{no_step}
use Rattle.vx_tree.specs.Views.{bound_of}
use Rattle.vx_rewrite_fusing.proofs.Merges.{merges_alike}
use Rattle.vx_rewrite_fusing.proofs.finding.find_between.Goals as goal

pub returns-in-Err-clause-stays : goal.returns-in-Err-clause-stays
returns-in-Err-clause-stays c = λ f. absurd (c.in-Err.ensures.0 f)

pub returns-in-Err-clause-memory : goal.returns-in-Err-clause-memory
returns-in-Err-clause-memory c = c.in-Err.ensures.1

pub returns-in-Ok-Some-clause-merges : goal.returns-in-Ok-Some-clause-merges
returns-in-Ok-Some-clause-merges c = let p = rw c.in-Ok-Some.field-0-is at c.in-Ok-Some.ensures in rw c.into_inner.ensures (p.1.count, p.1.merges)

pub returns-in-Ok-Some-clause-fused : goal.returns-in-Ok-Some-clause-fused
returns-in-Ok-Some-clause-fused c = let p = rw c.in-Ok-Some.field-0-is at c.in-Ok-Some.ensures in rw c.into_inner.ensures p.1.fused

pub returns-in-Ok-Some-clause-well_typed : goal.returns-in-Ok-Some-clause-well_typed
returns-in-Ok-Some-clause-well_typed c =
    let p = rw c.in-Ok-Some.field-0-is at c.in-Ok-Some.ensures in
    rw c.into_inner.ensures (merges_alike (bound_of c.args.tree) (bound_of c.in-Ok-Some.u.value) p.1.count c.requires p.1.merges).0.typed_after

pub returns-in-Ok-Some-clause-keeps : goal.returns-in-Ok-Some-clause-keeps
returns-in-Ok-Some-clause-keeps c =
    let p = rw c.in-Ok-Some.field-0-is at c.in-Ok-Some.ensures in
    rw c.into_inner.ensures (merges_alike (bound_of c.args.tree) (bound_of c.in-Ok-Some.u.value) p.1.count c.requires p.1.merges).0

pub returns-in-Ok-Some-clause-dtype : goal.returns-in-Ok-Some-clause-dtype
returns-in-Ok-Some-clause-dtype c =
    let p = rw c.in-Ok-Some.field-0-is at c.in-Ok-Some.ensures in
    rw c.into_inner.ensures (merges_alike (bound_of c.args.tree) (bound_of c.in-Ok-Some.u.value) p.1.count c.requires p.1.merges).1

pub returns-in-Ok-Some-clause-stays : goal.returns-in-Ok-Some-clause-stays
returns-in-Ok-Some-clause-stays c = let p = rw c.in-Ok-Some.field-0-is at c.in-Ok-Some.ensures in λ f. absurd (p.0 f)

pub returns-in-Ok-None-clause-merges : goal.returns-in-Ok-None-clause-merges
returns-in-Ok-None-clause-merges c = (0, no_step)

pub returns-in-Ok-None-clause-fused : goal.returns-in-Ok-None-clause-fused
returns-in-Ok-None-clause-fused c = rw c.in-Ok-None.field-0-is at c.in-Ok-None.ensures

pub returns-in-Ok-None-clause-keeps : goal.returns-in-Ok-None-clause-keeps
returns-in-Ok-None-clause-keeps c = keeps_refl (bound_of c.args.tree) c.requires
