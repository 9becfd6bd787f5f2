use Rattle.std.proofs.Common.{refl}
use Rattle.vx_fn.specs.Functions.{case_when}
use Rattle.vx_eval.specs.Columns.{rows_views}
use Rattle.vx_eval.proofs.Filled.{evaluated}
use Rattle.vx_eval.proofs.choice.case_when.Goals as goal

pub returns : goal.returns
returns c = λ pairs has_else ts. evaluated (case_when pairs has_else) ts c.args.count (rows_views c.args.columns.items) _ refl c.first_true.ensures.rows c.first_true.ensures.memory
