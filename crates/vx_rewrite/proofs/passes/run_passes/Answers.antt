use Rattle.std.proofs.Common.{arith}
use Rattle.std.proofs.lemmas.List.{get_or_default}
use Rattle.vx_rewrite_core.proofs.Keeping.{keeps_refl, keeps_trans}
use Rattle.vx_rewrite.proofs.Passing.{passed_next}
use Rattle.vx_rewrite.proofs.passes.run_passes.Goals as goal

pub loop-pass-init : goal.loop-pass-init
loop-pass-init c = record { left = λ u p. p; keeps = keeps_refl _ c.requires }

pub loop-pass-preserved : goal.loop-pass-preserved
loop-pass-preserved c = record {
  left = λ u rest. c.loop-pass.invariant.left u (passed_next c.args.passes.now c.loop-pass.pass-index _ _ _ u (omega arith) (get_or_default c.args.passes.now c.loop-pass.pass-index _ _ (omega arith)) c.in_ok-tree.ensures.gives rest);
  keeps = keeps_trans _ _ _ c.loop-pass.invariant.keeps c.in_ok-tree.ensures.keeps;
}
