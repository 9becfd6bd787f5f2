use Rattle.std.proofs.Common.{◌+◌, ◌*◌}
use Rattle.vx_sql_chance.proofs.maker.Maker.+node.Given as goal

abbrev pub decreases-push_node : goal.decreases-push_node
decreases-push_node l = 2 * l.levels

abbrev pub decreases-push_word : goal.decreases-push_word
decreases-push_word l = 2 * l.node.below + 1
