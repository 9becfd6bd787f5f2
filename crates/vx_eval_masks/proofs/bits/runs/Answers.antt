use Rattle.std.proofs.Common.{Ok, ap}
use Rattle.vx_eval_masks.proofs.MaskRuns.{run_pushed, runs_ended}
use Rattle.vx_eval_masks.proofs.bits.runs.Goals as goal

pub loop-run-preserved : goal.loop-run-preserved
loop-run-preserved c = run_pushed c.args.bits.now c.loop-run.found.items _ c.loop-run.i c.in-Some.run' c.loop-run.invariant c.in-Some.ensures c.in_ok-push.ensures.items

pub returns : goal.returns
returns c = ap Ok (runs_ended c.args.bits.now c.loop-run.found.items c.loop-run.i c.loop-run.invariant c.in_default.ensures)
