use Rattle.std.proofs.Common.{◌∙◌, ap, sym, Ok}
use Rattle.vx_walk.specs.Handed.{unchanged, seen}
use Rattle.vx_walk.specs.declared.closures.FnRewriter.{FnRewriter}
use Rattle.vx_walk.proofs.Rewriting.{Rewritten-through}
use Rattle.vx_walk.proofs.Unchanged.{Rewritten-unchanged}
use Rattle.vx_walk.proofs.ext.NodeExt.transform_down.Goals as goal

pub returns-clause-transformed : goal.returns-clause-transformed
returns-clause-transformed g c = (
  c.rewrite_node.new.rewriter.f,
  Rewritten-through _ _ (λ (s : FnRewriter g.row.Self.Denot g.row.F.Denot). s.f) _ _ _ _
      (λ v m a w k. record { node = k.node; looks = k.looks; answer = k.answer; sees = k.sees; step = k.step })
      (λ v m a w k. (
        sym k.sees ∙ (ap (seen g.Self.Node.mirror) k.step.0 ∙ ap (λ x. Ok (unchanged x)) k.looks),
        ap (λ (s : FnRewriter g.row.Self.Denot g.row.F.Denot). s.f) k.step.1,
      ))
      c.rewrite_node.ensures.rewritten,
)

pub returns-clause-unchanged : goal.returns-clause-unchanged
returns-clause-unchanged g c h = Rewritten-unchanged _ _ _ _ _ _ _ _ _ c.rewrite_node.ensures.rewritten
    (λ v n a w s. h v.f n a w.f s)
    (λ v n a w s. ap (seen g.Self.Node.mirror) s.0)
