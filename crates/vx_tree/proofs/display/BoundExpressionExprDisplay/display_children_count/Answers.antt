use Rattle.std.proofs.Common.{sym, ◌∙◌}
use Rattle.vx_tree.specs.Views.{bound_of}
use Rattle.vx_tree.proofs.Nodes.{count_of-unbound}
use Rattle.vx_tree.proofs.display.BoundExpressionExprDisplay.display_children_count.Goals as goal

pub returns : goal.returns
returns c = c.children.ensures.count ∙ sym (count_of-unbound (bound_of c.args.self.now))
