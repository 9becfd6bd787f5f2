use Rattle.std.proofs.Common.{arith, ap, ◌∙◌}
use Rattle.vx_partition.specs.Found.{combined}
use Rattle.vx_partition.specs.declared.found.Found.TheVariants.{One}
use Rattle.vx_partition.proofs.Alone.{found-next}
use Rattle.vx_partition.proofs.found.found_in.Goals as goal

pub loop-annotation-preserved : goal.loop-annotation-preserved
loop-annotation-preserved g c =
    let eq = g.A.PartialEq.eq in
    let xs = c.args.annotations.now in
    let a = c.annotation-item.result in
    c.combined-found.ensures ∙ ap (λ x. combined eq x (One a)) c.loop-annotation.invariant ∙ found-next eq g.met.A.Eq.laws xs c.loop-annotation.annotation-index a (omega arith) c.annotation-item.is
