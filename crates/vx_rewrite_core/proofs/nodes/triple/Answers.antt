use Rattle.vx_rewrite_core.proofs.Counted.{not_three}
use Rattle.vx_rewrite_core.proofs.nodes.triple.Goals as goal

pub returns-then-trees-ne3 : goal.returns-then-trees-ne3
returns-then-trees-ne3 c = not_three c.args.trees.now c.if-trees-ne3.true
