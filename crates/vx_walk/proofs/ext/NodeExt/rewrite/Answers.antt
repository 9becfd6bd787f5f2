use Rattle.vx_walk.proofs.Unchanged.{Rewritten-unchanged}
use Rattle.vx_walk.proofs.ext.NodeExt.rewrite.Goals as goal

pub returns-clause-unchanged : goal.returns-clause-unchanged
returns-clause-unchanged g c = Rewritten-unchanged _ _ _ _ _ _ _ _ _ c.rewrite_node.ensures.rewritten
