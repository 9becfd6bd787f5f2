use Rattle.std.proofs.Common.{sym, ap, ◌∙◌, arith}
use Rattle.std.specs.Prelude.{option_map}
use Rattle.vx_tree.specs.Trees.{unbound}
use Rattle.vx_tree.specs.Views.{bound_of}
use Rattle.vx_tree.proofs.Nodes.{count_of-unbound, tree_at-unbound}
use Rattle.vx_tree.proofs.display.BoundExpressionExprDisplay.display_child.Goals as goal

pub child-requires : goal.child-requires
child-requires c = omega (arith, count_of-unbound (bound_of c.args.self.now))

pub returns-clause-source : goal.returns-clause-source
returns-clause-source c = ap (option_map unbound) c.child.ensures ∙ sym (tree_at-unbound (bound_of c.args.self.now) c.args.i)
