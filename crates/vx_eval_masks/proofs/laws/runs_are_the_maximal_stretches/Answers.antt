use Rattle.vx_eval_masks.proofs.Stretches.{are_runs}
use Rattle.vx_eval_masks.proofs.laws.runs_are_the_maximal_stretches.Goals as goal

pub returns : goal.returns
returns c = are_runs
