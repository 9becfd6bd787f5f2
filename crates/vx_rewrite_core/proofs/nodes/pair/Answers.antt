use Rattle.vx_rewrite_core.proofs.Counted.{not_two}
use Rattle.vx_rewrite_core.proofs.nodes.pair.Goals as goal

pub returns-then-trees-ne2 : goal.returns-then-trees-ne2
returns-then-trees-ne2 c = not_two c.args.trees.now c.if-trees-ne2.true
