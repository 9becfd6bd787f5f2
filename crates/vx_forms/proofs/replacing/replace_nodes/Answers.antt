use Rattle.std.proofs.Common.{◌∙◌, ap, sym, Ok}
use Rattle.vx_walk.specs.Handed.{unchanged, seen}
use Rattle.vx_walk.proofs.Rewriting.{Rewritten-through}
use Rattle.vx_forms.specs.Replaced.{placed}
use Rattle.vx_forms.specs.declared.replacing.Replacer.{Replacer}
use Rattle.vx_forms.proofs.replacing.replace_nodes.Goals as goal

pub returns-clause-replaced : goal.returns-clause-replaced
returns-clause-replaced g c = (
  c.rewrite.new.rewriter.f,
  Rewritten-through _ _ (λ (s : Replacer g.row.N.Denot g.row.F.Denot). s.f) _ _ _ _
      (λ v m a w k. record { node = k.node; looks = k.looks; answer = k.answer; sees = k.sees; step = k.step })
      (λ v m a w k. (
        sym k.sees ∙ (ap (seen g.N.Node.mirror) k.step.0 ∙ ap (λ x. Ok (unchanged x)) k.looks),
        ap (λ (s : Replacer g.row.N.Denot g.row.F.Denot). s.f) k.step.1,
      ))
      c.rewrite.ensures.rewritten,
)

pub returns-clause-unchanged : goal.returns-clause-unchanged
returns-clause-unchanged g c h = c.rewrite.ensures.unchanged
    (λ v n a w k. ap (seen g.N.Node.mirror) (k.puts ∙ ap (placed n) (h v.f n k.given w.f k.step)))
    (λ v n a w s. ap (seen g.N.Node.mirror) s.0)
