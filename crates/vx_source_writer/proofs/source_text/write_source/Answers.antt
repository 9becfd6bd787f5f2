use Rattle.std.proofs.Output.{has_written_of_eq}
use Rattle.vx_source_writer.proofs.Nodes.{text_as_source}
use Rattle.vx_source_writer.proofs.source_text.write_source.Goals as goal

pub returns : goal.returns
returns g c plain ok = has_written_of_eq _ _ _ _ _ (text_as_source (g.T.TreeNode.tree c.args.node.now)) (c.write_tree.ensures plain ok)
