use Rattle.vx_rewrite_fusing.proofs.Children.{item_typed}
use Rattle.vx_commands.proofs.page.push_operands.Goals as goal

pub push_known-requires : goal.push_known-requires
push_known-requires c = item_typed c.args.trees.now c.loop-tree.tree-index c.tree-item.result c.loop-tree-test.true c.tree-item.is c.requires
