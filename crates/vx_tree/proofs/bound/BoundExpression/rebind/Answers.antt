use Rattle.vx_value.specs.Views.{type_of}
use Rattle.vx_tree.specs.Trees.{unbound}
use Rattle.vx_tree.specs.Views.{bound_of}
use Rattle.vx_tree.proofs.Binds.{typed_of, bound_over}
use Rattle.vx_tree.proofs.bound.BoundExpression.rebind.Goals as goal

pub returns-clause-typed : goal.returns-clause-typed
returns-clause-typed c = typed_of c.bind_tree.result (unbound (bound_of c.args.self.now)) (type_of c.args.scope.now) c.bind_tree.ensures.bound

pub returns-clause-over : goal.returns-clause-over
returns-clause-over c = bound_over c.bind_tree.result (unbound (bound_of c.args.self.now)) (type_of c.args.scope.now) c.bind_tree.ensures.bound
