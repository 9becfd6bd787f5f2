use Rattle.std.proofs.Common.{arith}
use Rattle.vx_eval_masks.proofs.MaskRuns.{run_counted, all_counted}
use Rattle.vx_eval_masks.proofs.bits.runs_within.Goals as goal

pub loop-run-preserved : goal.loop-run-preserved
loop-run-preserved c = record {
  so_far = run_counted c.args.bits.now c.loop-run.n c.loop-run.i c.in-Some.run' c.loop-run.invariant.so_far c.in-Some.ensures;
  few = omega arith;
}

pub returns : goal.returns
returns c = all_counted c.args.bits.now c.loop-run.n c.args.most c.loop-run.i c.loop-run.invariant.so_far c.loop-run.invariant.few c.in_default.ensures
