use Rattle.std.proofs.Common.{ap}
use Rattle.vx_walk.specs.declared.closures.FnVisitor.{FnVisitor}
use Rattle.vx_walk.proofs.Walking.{Walked-through}
use Rattle.vx_walk.proofs.pre_order.pre_order_visit_down.Goals as goal

pub returns : goal.returns
returns g c = (
  c.walk.new.visitor.f,
  Walked-through _ (λ (s : FnVisitor g.row.N.Denot g.row.F.Denot). s.f) _ _ _ _
      (λ v m a w k. record { node = k.node; looks = k.looks; step = k.step })
      (λ v m a w k. (k.step.0, ap (λ (s : FnVisitor g.row.N.Denot g.row.F.Denot). s.f) k.step.1))
      c.walk.ensures.walked,
)
