use Rattle.std.proofs.Output.{has_written_of_eq}
use Rattle.vx_tree.proofs.Written.{text_as_sql}
use Rattle.vx_tree.proofs.sql.fmt_sql.Goals as goal

pub returns : goal.returns
returns g c plain ok = has_written_of_eq _ _ _ _ _ (text_as_sql (g.T.TreeNode.tree c.args.node.now)) (c.write_tree.ensures plain ok)
