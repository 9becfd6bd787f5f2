use Rattle.vx_run.proofs.Branching.{branches_is_normal_form}
use Rattle.vx_run.proofs.laws.branches_is_normal_form.Goals as goal

pub returns : goal.returns
returns c = branches_is_normal_form
