use Rattle.vx_eval_like.proofs.Beginning.{like_is}
use Rattle.vx_eval_like.proofs.laws.like_is_beginning.Goals as goal

pub returns : goal.returns
returns c = like_is
