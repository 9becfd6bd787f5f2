use Rattle.std.proofs.Common.{sym, ap, ◌∙◌}
use Rattle.vx_tree.specs.Trees.{unbound_each}
use Rattle.vx_tree.specs.Views.{bound_of}
use Rattle.vx_tree.proofs.Nodes.{unbound_each-bounds_of, children_of-unbound}
use Rattle.vx_tree.proofs.node.BoundExpressionTreeNode.node_children.Goals as goal

pub returns : goal.returns
returns c = sym (unbound_each-bounds_of c.children.result.now) ∙ ap unbound_each c.children.ensures.trees ∙ sym (children_of-unbound (bound_of c.args.self.now))
