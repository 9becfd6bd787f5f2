use Rattle.vx_rewrite_core.proofs.Counted.{not_one}
use Rattle.vx_rewrite_core.proofs.nodes.only.Goals as goal

pub returns-then-trees-ne1 : goal.returns-then-trees-ne1
returns-then-trees-ne1 c = not_one c.args.trees.now c.if-trees-ne1.true
