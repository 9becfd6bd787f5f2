use Rattle.vx_rewrite_core.proofs.Counted.{fewer_than_two}
use Rattle.vx_rewrite_core.proofs.nodes.first_two.Goals as goal

pub returns-then-trees-lt2 : goal.returns-then-trees-lt2
returns-then-trees-lt2 c = fewer_than_two c.args.trees.now c.if-trees-lt2.true
